-- The first line that is found.
use Rattle.std.proofs.Common.{ℕ, ◌≡◌, Bool, true, false, cond, List, [], ◌∷◌, ◌++◌, refl, sym, ap, Option, Some, None}
use Rattle.std.specs.Prelude.{find, is_some}
use Rattle.std.proofs.lemmas.Bool.{false≢true}

cond_none : (b : Bool) (l : List ℕ) (o : Option (List ℕ)) → cond b (Some l) o ≡ None → (b ≡ false) × (o ≡ None)
cond_none true l o h = absurd (false≢true (sym (ap is_some h)))
cond_none false l o h = (refl, h)

-- nothing was found so far
pub none_more : (p : List ℕ → Bool) (lines : List (List ℕ)) (line : List ℕ) → find p lines ≡ None → p line ≡ false →
    find p (lines ++ line ∷ []) ≡ None
none_more p [] line none here = rw here refl
none_more p (l ∷ ls) line none here =
    let both = cond_none (p l) l (find p ls) none in
    rw both.0 (none_more p ls line both.1 here)

-- the first that is found
pub found_at : (p : List ℕ → Bool) (before : List (List ℕ)) (line : List ℕ) (after : List (List ℕ)) →
    find p before ≡ None → p line ≡ true →
    find p (before ++ (line ∷ after)) ≡ Some line
found_at p [] line after none here = rw here refl
found_at p (l ∷ ls) line after none here =
    let both = cond_none (p l) l (find p ls) none in
    rw both.0 (found_at p ls line after both.1 here)
