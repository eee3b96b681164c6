-- The letters of castling rights.
use Rattle.std.proofs.Common.{◌≡◌, ◌≢◌, ℕ, zero, suc, ◌*◌, ◌^◌, ◌<◌, ◌==◌, List, [], ◌∷◌, ◌++◌, length, refl, ap, ◌∙◌, arith, append-nil, append_assoc, length-append}
use Rattle.std.specs.Int.{bit_at}
use Rattle.std.specs.Int.Bits.{bit_and}
use Rattle.std.proofs.lemmas.Nat.{pow_pos}
use Rattle.std.proofs.lemmas.Nat.Bits.{and_pow, bit_at-lt}
use Rattle.std.proofs.lemmas.Bool.Decides.{nat_tests}
use Rattle.chess_notation.specs.Fen.{or_dash}

-- a product with 0 or 1
times_is_whole : (b m : ℕ) → b < 2 → 0 < m → (b * m == m) ≡ (b == 1)
times_is_whole zero m low pos = grind (arith, nat_tests)
times_is_whole (suc zero) m low pos = grind (arith, nat_tests)
times_is_whole (suc (suc b)) m low pos = absurd (omega arith)

-- the test that `contains` makes of one flag
pub has_bit : (n k : ℕ) → (bit_and n (2 ^ k) == 2 ^ k) ≡ (bit_at n k == 1)
has_bit n k = ap (λ m. m == 2 ^ k) (and_pow n k) ∙ times_is_whole (bit_at n k) (2 ^ k) (bit_at-lt n k) (pow_pos k)

-- `-` stands where there is no letter, and only there
pub or_dash-none : (text letters : List ℕ) → length (text ++ letters) ≡ length text →
    (text ++ letters) ++ (45 ∷ []) ≡ text ++ or_dash letters
or_dash-none text [] h = ap (λ t. t ++ (45 ∷ [])) (append-nil text)
or_dash-none text (letter ∷ letters) h = absurd (omega (arith, length-append text (letter ∷ letters)))

pub or_dash-some : (text letters : List ℕ) → length (text ++ letters) ≢ length text →
    text ++ letters ≡ text ++ or_dash letters
or_dash-some text [] h = absurd (h (ap length (append-nil text)))
or_dash-some text (letter ∷ letters) h = refl

-- four texts, written one after the other
pub append_four : (text a b c d : List ℕ) → (((text ++ a) ++ b) ++ c) ++ d ≡ text ++ (a ++ (b ++ (c ++ d)))
append_four text a b c d = simp append_assoc
