use Rattle.std.specs.Prelude.{ℕ, ◌≡◌, ◌+◌, ◌*◌, ◌/◌, ◌%◌, ◌^◌, ◌<◌, Bool, ◌==◌, cond, List, [], ◌∷◌}
use Rattle.std.proofs.Common.{zero, suc, arith}
use Rattle.std.proofs.lemmas.Bool.Decides.{nat_tests}

-- the lowest n bits of a number, from bit 0 on
unfoldable pub bools_of : ℕ → ℕ → List Bool
bools_of zero w = []
bools_of (suc n) w = (w % 2 == 1) ∷ bools_of n (w / 2)

-- the number that has these bits
abbrev pub word_of : List Bool → ℕ
word_of [] = 0
word_of (b ∷ bs) = cond b 1 0 + 2 * word_of bs

lowest : (w : ℕ) → cond (w % 2 == 1) 1 0 ≡ w % 2
lowest w = grind (arith, nat_tests)

-- a number is that of its bits
pub word_of-bools_of : (n w : ℕ) → w < 2 ^ n → word_of (bools_of n w) ≡ w
unfolding bools_of
word_of-bools_of zero w h = omega arith
word_of-bools_of (suc n) w h =
    let half : w / 2 < 2 ^ n = omega arith in
    omega (arith, lowest w, word_of-bools_of n (w / 2) half)
