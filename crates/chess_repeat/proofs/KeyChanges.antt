-- Where the same stands, the bytes of keys are the same.
use Rattle.std.proofs.Common.{ℕ, ◌≡◌, ◌∙◌, ◌+◌, ◌*◌, ◌/◌, ◌<◌, Bool, inl, inr, List, ap, arith}
use Rattle.std.proofs.lemmas.Bool.{cases_Bool}
use Rattle.chess_bits.specs.Square.{Square, square_at, number_of, number_of-square_at}
use Rattle.chess_bits.specs.Table.{has, members}
use Rattle.chess_bits.specs.Attack.{SomeOf}
use Rattle.chess_bits.proofs.TableLemmas.{IsOnBoard-square_at}
use Rattle.chess_bits.proofs.AlongLemmas.{SomeOf-members}
use Rattle.chess_board.specs.Occupancy.{AreChanges}
use Rattle.chess_board.specs.Position.{Placement}
use Rattle.chess_repeat.specs.Key.{code_at, here_code, men_byte}

-- the square is one of the two of a byte
abbrev pub PointsTo : ℕ → Square → Type 0
PointsTo k s = number_of s / 2 ≡ k

-- where no square of a byte has changed, the byte has not
pub byte_kept : (before men : Placement) (set : List Bool) (k : ℕ) →
    AreChanges before men set → k < 32 →
    ¬ SomeOf (PointsTo k) (members set) → men_byte before k ≡ men_byte men k
byte_kept before men set k same below none =
    let code : (n : ℕ) → n < 64 → n / 2 ≡ k → code_at before n ≡ code_at men n =
    λ n inside half. elim (cases_Bool (has set (square_at n))) [
      | inl there ↦ absurd (none (SomeOf-members (PointsTo k) set (square_at n) (IsOnBoard-square_at n inside) there
          (ap (λ (j : ℕ). j / 2) (number_of-square_at n) ∙ half)))
      | inr out ↦ ap here_code ((same (square_at n)).0 out)
    ] in
    ap (λ (x : ℕ). x + 16 * code_at before (2 * k + 1)) (code (2 * k) (omega arith) (omega arith))
    ∙ ap (λ (x : ℕ). code_at men (2 * k) + 16 * x) (code (2 * k + 1) (omega arith) (omega arith))
