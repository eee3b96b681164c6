-- Texts of a list, one after another.
use Rattle.std.proofs.Common.{ℕ, ◌≡◌, ◌<◌, ◌+◌, List, [], ◌∷◌, ◌++◌, length, get_or, map, take, drop, sym, ap, ◌∙◌}
use Rattle.std.specs.Borrow.{Bor}
use Rattle.std.proofs.lemmas.List.{take_more, drop_more, take-append-drop, get_or-map, length-map}

-- the texts up to one more
pub items_more : (items : List (Bor (List ℕ))) (i : ℕ) (d : Bor (List ℕ)) → i < length items →
    take (i + 1) (map (λ (item : Bor (List ℕ)). item.now) items)
    ≡ take i (map (λ (item : Bor (List ℕ)). item.now) items) ++ (get_or items i d).now ∷ []
items_more items i d below =
    let now = λ (item : Bor (List ℕ)). item.now in
    let inside : i < length (map (λ (item : Bor (List ℕ)). item.now) items) = rw (length-map items now) below in
    take_more (map now items) i d.now inside
    ∙ ap (λ (text : List ℕ). take i (map now items) ++ text ∷ []) (get_or-map now items i d d.now below)

-- the texts from one on
pub items_from : (items : List (Bor (List ℕ))) (i : ℕ) (d : Bor (List ℕ)) → i < length items →
    drop i (map (λ (item : Bor (List ℕ)). item.now) items)
    ≡ (get_or items i d).now ∷ drop (i + 1) (map (λ (item : Bor (List ℕ)). item.now) items)
items_from items i d below =
    let now = λ (item : Bor (List ℕ)). item.now in
    let texts = map now items in
    let inside : i < length (map (λ (item : Bor (List ℕ)). item.now) items) = rw (length-map items now) below in
    drop_more texts i d.now inside ∙ ap (λ (text : List ℕ). text ∷ drop (i + 1) texts) (get_or-map now items i d d.now below)

-- the texts in front of one, that text, and those behind it
pub items_around : (items : List (Bor (List ℕ))) (i : ℕ) (d : Bor (List ℕ)) → i < length items →
    map (λ (item : Bor (List ℕ)). item.now) items ≡ take i (map (λ (item : Bor (List ℕ)). item.now) items)
    ++ ((get_or items i d).now ∷ drop (i + 1) (map (λ (item : Bor (List ℕ)). item.now) items))
items_around items i d below =
    let now = λ (item : Bor (List ℕ)). item.now in
    let texts = map now items in
    sym (take-append-drop i texts) ∙ ap (λ (ts : List (List ℕ)). take i texts ++ ts) (items_from items i d below)
