use Rattle.std.proofs.Common.{◌≡◌, arith}
use Rattle.chess_bits.proofs.SetLemmas.{IsSetOf-like}
use Rattle.chess_bits.specs.Square.{Square}
use Rattle.chess_moves.specs.Masks.{IsLeaper, EndsBelow, IsPinnedBelow}
use Rattle.chess_moves.proofs.SetForms.{none_set}
use Rattle.chess_moves.proofs.masks.unwatched.Goals as goal

pub returns : goal.returns
returns c =
    let p = c.args.board.now in
    let k = c.king_of-king.result in
    record {
      valid = c.king_of-king.ensures.valid;
      king = c.king_of-king.ensures.king;
      straight = c.straight_sliders.ensures;
      diagonal = c.diagonal_sliders.ensures;
      ends = IsSetOf-like c.ends_of_leaps.result (λ q. (l : Square) → IsLeaper p k l → q ≡ l) (EndsBelow p k 0)
          c.ends_of_leaps.ensures
          (λ q on leaps. record { leaps = leaps; slides = λ way l below. absurd (omega arith) })
          (λ q on ends. ends.leaps);
      pinned = rw c.new.ensures
          (none_set (IsPinnedBelow p k 0) (λ from on (own, (way, l, below, slider, pin)). absurd (omega arith)));
    }
