-- A legal move in a valid position leads to a valid position.
use Rattle.std.specs.Prelude.{ℕ, ◌+◌, ◌<◌, ◌≤◌, ◌||◌, is_some}
use Rattle.std.proofs.Common.{arith, ◌∙◌}
use Rattle.std.proofs.lemmas.Bool.{cond_both}
use Rattle.chess_bits.specs.declared.men.Colour.{Colour}
use Rattle.chess_bits.specs.declared.men.Colour.TheVariants.{White, Black}
use Rattle.chess_bits.specs.declared.men.Kind.TheVariants.{Pawn}
use Rattle.chess_bits.proofs.ManLemmas.{other-other}
use Rattle.chess_board.specs.declared.moves.Move.{Move}
use Rattle.chess_board.specs.Position.{Position, man_at, IsValid, HasCounters}
use Rattle.chess_board.specs.Next.{moves_kind, halfmove_after, fullmove_after, next}
use Rattle.chess_board.specs.Legal.{IsLegal}
use Rattle.chess_board.proofs.PlacementAfter.{length-placement_after}
use Rattle.chess_board.proofs.Candidates.{IsMove-candidate}
use Rattle.chess_board.proofs.ValidMen.{kings-after, men-after, pawns-after}
use Rattle.chess_board.proofs.ValidRights.{HasTrueRights-next}
use Rattle.chess_board.proofs.ValidTarget.{HasTrueTarget-next}

-- a move adds at most one to each counter
pub halfmove_after-le : (p : Position) (m : Move) → halfmove_after p m ≤ p.halfmove + 1
unfolding halfmove_after
halfmove_after-le p m =
    cond_both (moves_kind p m Pawn || is_some (man_at p.placement m.to)) 0 (p.halfmove + 1) (λ n. n ≤ p.halfmove + 1)
    (λ e. omega arith) (λ e. omega arith)

pub fullmove_after-within : (side : Colour) (n : ℕ) → (n ≤ fullmove_after side n) × (fullmove_after side n ≤ n + 1)
fullmove_after-within White n = (omega arith, omega arith)
fullmove_after-within Black n = (omega arith, omega arith)

pub HasCounters-next : (p : Position) (m : Move) → HasCounters p → p.halfmove < 65535 → p.fullmove < 65535 →
    HasCounters (next p m)
HasCounters-next p m counters half full =
    let halfmove = halfmove_after-le p m in
    let fullmove = fullmove_after-within p.side p.fullmove in
    (omega arith, omega arith, omega arith)

pub IsValid-next : (p : Position) (m : Move) → IsValid p → IsLegal p m → p.halfmove < 65535 → p.fullmove < 65535 →
    IsValid (next p m)
IsValid-next p m valid legal half full =
    let candidate = legal.candidate in
    let move = IsMove-candidate p m valid candidate in
    record {
      whole = length-placement_after p m ∙ valid.whole;
      kings = λ c. kings-after p m candidate.kind c valid move ∙ valid.kings c;
      men = λ c.
          let before = valid.men c in
          let after = men-after p m candidate.kind c valid move in
          omega arith;
      pawns = pawns-after p m candidate.kind valid move;
      check = rw (other-other p.side) legal.safe;
      rights = HasTrueRights-next p m candidate.kind valid move;
      target = HasTrueTarget-next p m valid candidate;
      counters = HasCounters-next p m valid.counters half full;
    }
