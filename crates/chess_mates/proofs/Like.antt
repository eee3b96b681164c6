-- The counters do not matter to whether a side can mate.
use Rattle.std.specs.Prelude.{◌≡◌, List, [], ◌∷◌}
use Rattle.std.proofs.Common.{◌∙◌, sym, subst, refl}
use Rattle.chess_bits.specs.declared.men.Colour.{Colour}
use Rattle.chess_board.specs.declared.moves.Move.{Move}
use Rattle.chess_board.specs.Position.{Position}
use Rattle.chess_board.specs.Next.{next}
use Rattle.chess_board.specs.Legal.{IsLegal}
use Rattle.chess_san.specs.Boards.{DiffersInCounters, rewound}
use Rattle.chess_san.proofs.Counters.{recounted-is, next-recounted, IsLegal-recounted, check-like, HasLegal-like}
use Rattle.chess_mates.specs.Mates.{IsMatedBy, IsMatingLine}

pub next_like : (a b : Position) (m : Move) → DiffersInCounters a b → DiffersInCounters (next a m) (next b m)
next_like a b m d =
    subst (λ (q : Position). DiffersInCounters (next a m) (next q m)) (sym (recounted-is a b d))
    (next-recounted a m b.halfmove b.fullmove)

pub legal_like : (a b : Position) (m : Move) → DiffersInCounters a b → IsLegal a m → IsLegal b m
legal_like a b m d legal =
    subst (λ (q : Position). IsLegal q m) (sym (recounted-is a b d)) (IsLegal-recounted a m b.halfmove b.fullmove legal)

pub turned : (a b : Position) → DiffersInCounters a b → DiffersInCounters b a
turned a b d =
    record { placement = sym d.placement; side = sym d.side; rights = sym d.rights; target = sym d.target }

pub through : (a b c : Position) → DiffersInCounters a b → DiffersInCounters b c → DiffersInCounters a c
through a b c d e = record {
  placement = e.placement ∙ d.placement;
  side = e.side ∙ d.side;
  rights = e.rights ∙ d.rights;
  target = e.target ∙ d.target;
}

pub mated_like : (side : Colour) (a b : Position) → DiffersInCounters a b → IsMatedBy side a → IsMatedBy side b
mated_like side a b d mated = record {
  turn = d.side ∙ mated.turn;
  mate = record {
    check = (check-like a b d).0 mated.mate.check;
    stuck = λ has. mated.mate.stuck ((HasLegal-like a b d).1 has);
  };
}

pub mating_like : (side : Colour) (a b : Position) (moves : List Move) → DiffersInCounters a b →
    IsMatingLine side a moves → IsMatingLine side b moves
mating_like side a b [] d line = record { legal = tt; mated = mated_like side a b d line.mated }
mating_like side a b (m ∷ moves) d line =
    let rest : IsMatingLine side (next b m) moves =
    mating_like side (next a m) (next b m) moves (next_like a b m d)
    (record { legal = line.legal.1; mated = line.mated }) in
    record { legal = (legal_like a b m d line.legal.0, rest.legal); mated = rest.mated }

pub from_rewound : (p : Position) → DiffersInCounters (rewound p) p
from_rewound p = record { placement = refl; side = refl; rights = refl; target = refl }
