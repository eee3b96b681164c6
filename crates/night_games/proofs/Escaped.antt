-- As it stands in a page a text has no sign of markup, and each ampersand begins a reference.
use Rattle.std.proofs.Common.{ℕ, ◌≡◌, ◌==◌, Bool, true, false, List, [], ◌∷◌, ◌++◌, refl, ap, ◌∙◌}
use Rattle.std.specs.List.{list_any}
use Rattle.night_games.specs.Html.{escaped_byte, escaped, is_markup, has_references}

abbrev Clean : List ℕ → Type 0
Clean text = list_any is_markup (escaped text) ≡ false

abbrev Referred : List ℕ → Type 0
Referred text = has_references (escaped text) ≡ true

other_byte : (b : ℕ) → (b == 38) ≡ false → (b == 60) ≡ false → (b == 62) ≡ false → (b == 34) ≡ false →
    (b == 39) ≡ false → escaped_byte b ≡ b ∷ []
other_byte b a l g q p = rw a (rw l (rw g (rw q (rw p refl))))

other_clean : (b : ℕ) (rest : List ℕ) → (b == 60) ≡ false → (b == 62) ≡ false → (b == 34) ≡ false → (b == 39) ≡ false →
    list_any is_markup (b ∷ rest) ≡ list_any is_markup rest
other_clean b rest l g q p = rw l (rw g (rw q (rw p refl)))

other_referred : (b : ℕ) (rest : List ℕ) → (b == 38) ≡ false → has_references (b ∷ rest) ≡ has_references rest
other_referred b rest a = rw a refl

one_clean : (b : ℕ) (text : List ℕ) (x y z u v : Bool) → (b == 38) ≡ x → (b == 60) ≡ y → (b == 62) ≡ z → (b == 34) ≡ u →
    (b == 39) ≡ v → Clean text → Clean (b ∷ text)
one_clean b text true y z u v a l g q p below = rw a below
one_clean b text false true z u v a l g q p below = rw a (rw l below)
one_clean b text false false true u v a l g q p below = rw a (rw l (rw g below))
one_clean b text false false false true v a l g q p below = rw a (rw l (rw g (rw q below)))
one_clean b text false false false false true a l g q p below = rw a (rw l (rw g (rw q (rw p below))))
one_clean b text false false false false false a l g q p below =
    ap (λ xs. list_any is_markup (xs ++ escaped text)) (other_byte b a l g q p)
    ∙ (other_clean b (escaped text) l g q p ∙ below)

pub none_is_markup : (text : List ℕ) → Clean text
none_is_markup [] = refl
none_is_markup (b ∷ text) =
    one_clean b text (b == 38) (b == 60) (b == 62) (b == 34) (b == 39) refl refl refl refl refl (none_is_markup text)

one_referred : (b : ℕ) (text : List ℕ) (x y z u v : Bool) → (b == 38) ≡ x → (b == 60) ≡ y → (b == 62) ≡ z →
    (b == 34) ≡ u → (b == 39) ≡ v → Referred text → Referred (b ∷ text)
one_referred b text true y z u v a l g q p below = rw a below
one_referred b text false true z u v a l g q p below = rw a (rw l below)
one_referred b text false false true u v a l g q p below = rw a (rw l (rw g below))
one_referred b text false false false true v a l g q p below = rw a (rw l (rw g (rw q below)))
one_referred b text false false false false true a l g q p below = rw a (rw l (rw g (rw q (rw p below))))
one_referred b text false false false false false a l g q p below =
    ap (λ xs. has_references (xs ++ escaped text)) (other_byte b a l g q p)
    ∙ (other_referred b (escaped text) a ∙ below)

pub all_are_references : (text : List ℕ) → Referred text
all_are_references [] = refl
all_are_references (b ∷ text) =
    one_referred b text (b == 38) (b == 60) (b == 62) (b == 34) (b == 39) refl refl refl refl refl
    (all_are_references text)
