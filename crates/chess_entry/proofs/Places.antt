-- What a list is from a place on, and up to it, by the item at the place.
use Rattle.std.proofs.Common.{ℕ, ◌≡◌, ◌+◌, ◌<◌, ◌∙◌, List, [], ◌∷◌, ◌++◌, length, get_or, take, drop, sym, ap}
use Rattle.std.proofs.lemmas.List.{drop_more, take_more}

pub drop_at : {X : Type 0} (items : List X) (i : ℕ) (item : X) → i < length items → item ≡ get_or items i item →
    drop i items ≡ item ∷ drop (i + 1) items
drop_at {X = X} items i item below here =
    drop_more items i item below ∙ ap (λ (first : X). first ∷ drop (i + 1) items) (sym here)

pub take_with : {X : Type 0} (items : List X) (i : ℕ) (item : X) → i < length items → item ≡ get_or items i item →
    take (i + 1) items ≡ take i items ++ item ∷ []
take_with {X = X} items i item below here =
    take_more items i item below ∙ ap (λ (last : X). take i items ++ last ∷ []) (sym here)
