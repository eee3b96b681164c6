-- Games among games, and lists that begin with others.
use Rattle.std.proofs.Common.{ℕ, ◌≡◌, Bool, true, false, ◌||◌, ◌==◌, List, [], ◌∷◌, ◌++◌, refl, sym, ap, subst, ◌∙◌}
use Rattle.std.specs.Prelude.{if◌then◌else◌}
use Rattle.std.proofs.lemmas.Bool.{false≢true, or_from, or_left, or_parts}
use Rattle.std.proofs.lemmas.Bool.Decides.{Decides-eqb}
use Rattle.night_files.specs.File.{IsFront}
use Rattle.night_archive.specs.Files.{contains}
use Rattle.night_archive.specs.Laws.{IsOnce}

-- two tests that pass together are one
pub same_test : (a b : Bool) → (a ≡ true → b ≡ true) → (b ≡ true → a ≡ true) → a ≡ b
same_test true true f g = refl
same_test true false f g = absurd (false≢true (f refl))
same_test false true f g = absurd (false≢true (g refl))
same_test false false f g = refl

pub eqb_swap : (a b : ℕ) → (a == b) ≡ (b == a)
eqb_swap a b = same_test (a == b) (b == a) (λ h. (Decides-eqb b a).1 (sym ((Decides-eqb a b).0 h))) (λ h. (Decides-eqb a b).1 (sym ((Decides-eqb b a).0 h)))

or_assoc : (a b c : Bool) → (a || (b || c)) ≡ ((a || b) || c)
or_assoc true b c = refl
or_assoc false b c = refl

pub contains-append : (g : ℕ) (xs ys : List ℕ) → contains g (xs ++ ys) ≡ (contains g xs || contains g ys)
contains-append g [] ys = refl
contains-append g (x ∷ xs) ys = ap (λ b. x == g || b) (contains-append g xs ys) ∙ or_assoc (x == g) (contains g xs) (contains g ys)

or_last : (c b : Bool) → (if b then true else c) ≡ (c || (b || false))
or_last true true = refl
or_last true false = refl
or_last false true = refl
or_last false false = refl

-- one more
pub contains_more : (g x : ℕ) (xs : List ℕ) → contains g (xs ++ x ∷ []) ≡ (if x == g then true else contains g xs)
contains_more g x xs = contains-append g xs (x ∷ []) ∙ sym (or_last (contains g xs) (x == g))

-- fronts
pub front_contains : (g : ℕ) (a b : List ℕ) → IsFront a b → contains g a ≡ true → contains g b ≡ true
front_contains g a b h k = ap (contains g) h.1 ∙ (contains-append g a h.0 ∙ or_left (contains g a) (contains g h.0) k)

-- no game twice
once-append : (xs ys : List ℕ) → IsOnce (xs ++ ys) → IsOnce xs
once-append [] ys h = tt
once-append (x ∷ xs) ys h =
    ((or_parts (contains x xs) (contains x ys) (sym (contains-append x xs ys) ∙ h.0)).0, once-append xs ys h.1)

once_along : (a b : List ℕ) → a ≡ b → IsOnce a → IsOnce b
once_along a b e h = subst IsOnce e h

pub once_front : (a b : List ℕ) → IsFront a b → IsOnce b → IsOnce a
once_front a b h k = once-append a h.0 (once_along b (a ++ h.0) h.1 k)

pub once_more : (g : ℕ) (xs : List ℕ) → IsOnce xs → contains g xs ≡ false → IsOnce (xs ++ g ∷ [])
once_more g [] h k = (refl, tt)
once_more g (x ∷ xs) h k = (
  contains-append x xs (g ∷ [])
      ∙ or_from (contains x xs) (g == x || false) h.0
      (or_from (g == x) false (eqb_swap g x ∙ (or_parts (x == g) (contains g xs) k).0) refl),
  once_more g xs h.1 (or_parts (x == g) (contains g xs) k).1,
)
