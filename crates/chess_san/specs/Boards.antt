use Rattle.std.specs.Prelude.{◌≡◌}
use Rattle.chess_board.specs.Position.{Position, IsInCheck}
use Rattle.chess_moves.specs.Moves.{HasLegal}
use Rattle.chess_notation.specs.declared.telling.Threat.{Threat}
use Rattle.chess_notation.specs.declared.telling.Threat.TheVariants as threat

-- two positions that differ in their counters alone
pub record DiffersInCounters (a b : Position) : Type 0 where
  pub placement : b.placement ≡ a.placement
  pub side : b.side ≡ a.side
  pub rights : b.rights ≡ a.rights
  pub target : b.target ≡ a.target

-- a position with its counters at their start
abbrev pub rewound : Position → Position
rewound p = record p { halfmove = 0; fullmove = 1 }

-- what the side to move stands under (FIDE articles 3.9.1 and 5.1.1)
abbrev pub StandsUnder : Position → Threat → Type 0
StandsUnder p threat.Nothing = ¬ IsInCheck p.placement p.side
StandsUnder p threat.Check = IsInCheck p.placement p.side × HasLegal p
StandsUnder p threat.Mate = IsInCheck p.placement p.side × ¬ HasLegal p
