-- The rows of a text, one by one.
use Rattle.std.proofs.Common.{ℕ, ◌≡◌, ◌<◌, ◌+◌, List, [], ◌∷◌, ◌++◌, length, get_or, take, sym, ap, ◌∙◌}
use Rattle.std.specs.List.{flat_map}
use Rattle.std.proofs.lemmas.List.{take_more, flat_map_more}

-- a row more behind a front and rows
pub rows_more : {X : Type 0} (row : X → List ℕ) (front : List ℕ) (xs : List X) (i : ℕ) (one : X) → i < length xs → one ≡ get_or xs i one →
    (front ++ flat_map row (take i xs)) ++ row one ≡ front ++ flat_map row (take (i + 1) xs)
rows_more {X} row front xs i one below is =
    flat_map_more row front (take i xs) one
    ∙ ap (λ (ys : List X). front ++ flat_map row ys)
    (sym (take_more xs i one below ∙ ap (λ (x : X). take i xs ++ x ∷ []) (sym is)))
