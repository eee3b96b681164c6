-- How many games of a player wait, or go on.
use Rattle.std.proofs.Common.{ℕ, ◌≡◌, ◌+◌, ◌-◌, ◌*◌, List, [], ◌∷◌, map, fold, Bool, refl, arith, cond}
use Rattle.std.specs.Prelude.{nat_le}
use Rattle.std.specs.Cmp.{both_ways}
use Rattle.std.specs.List.{count_by}
use Rattle.std.proofs.lemmas.Bool.Decides.{nat_tests}

-- what is counted of what others are
pub count_map : {X Y : Type 0} (f : X → Y) (p : Y → Bool) (xs : List X) → count_by p (map f xs) ≡ count_by (λ x. p (f x)) xs
count_map {X} {Y} f p xs = along 0 xs
  where
    along : (a : ℕ) (ys : List X) → fold (λ s y. s + cond (p y) 1 0) a (map f ys) ≡ fold (λ s x. s + cond (p (f x)) 1 0) a ys
    along a [] = refl
    along a (y ∷ ys) = along (a + cond (p (f y)) 1 0) ys

pub many : (m a b : ℕ) → nat_le (m - a) b ≡ nat_le m (a + b)
many m a b = both_ways (nat_le (m - a) b) (nat_le m (a + b)) (λ h. grind (arith, nat_tests)) (λ h. grind (arith, nat_tests))

pub taken : (m s w o : ℕ) → nat_le (m - s - w - o) o ≡ nat_le m (s + (w + 2 * o))
taken m s w o = both_ways (nat_le (m - s - w - o) o) (nat_le m (s + (w + 2 * o))) (λ h. grind (arith, nat_tests)) (λ h. grind (arith, nat_tests))
