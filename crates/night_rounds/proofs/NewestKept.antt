-- Which games are newer than those of a table, by its newest.
use Rattle.std.proofs.Common.{ℕ, ◌≡◌, ◌<◌, ◌&&◌, Bool, true, false, List, Option, None, Some, refl, sym, ap, ◌∙◌, arith, if◌then◌else◌}
use Rattle.std.specs.Prelude.{nat_lt}
use Rattle.std.proofs.lemmas.Bool.Decides.{nat_tests}
use Rattle.night_rounds.specs.Newer.{is_newer, is_newest}

-- past a newer game is past the older one
past_newer : (one game n : ℕ) (rest : Bool) → nat_lt one game ≡ true → (nat_lt one n && (nat_lt game n && rest)) ≡ (nat_lt game n && rest)
past_newer one game n true newer = grind (arith, nat_tests)
past_newer one game n false newer = grind (arith, nat_tests)

past_older : (one game n : ℕ) (rest : Bool) → nat_lt one game ≡ false → (nat_lt one n && (nat_lt game n && rest)) ≡ (nat_lt one n && rest)
past_older one game n true newer = grind (arith, nat_tests)
past_older one game n false newer = grind (arith, nat_tests)

-- what is past the newest so far and one game more
pub one_more : (older : Option ℕ) (game n : ℕ) (rest is : Bool) → is_newer older game ≡ is →
    (is_newer older n && (nat_lt game n && rest)) ≡ (is_newer (if is then Some game else older) n && rest)
one_more None game n rest true e = refl
one_more None game n rest false e = cc
one_more (Some one) game n rest true e = past_newer one game n rest e
one_more (Some one) game n rest false e = past_older one game n rest e
