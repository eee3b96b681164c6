-- Offers, and what is seen of them.
use Rattle.std.proofs.Common.{ℕ, ◌≡◌, ◌||◌, ◌++◌, ◌<◌, ◌+◌, Bool, true, false, List, [], ◌∷◌, length, map, filter, cond, take, get_or, refl, sym, ap, ◌∙◌, append_assoc}
use Rattle.std.specs.Prelude.{if◌then◌else◌}
use Rattle.std.specs.List.{list_any, flat_map}
use Rattle.std.proofs.lemmas.List.{length-map, take_more, map-append}
use Rattle.std.proofs.lemmas.List.Elements.{filter-append}
use Rattle.std.proofs.lemmas.Grind.{flat_map-append}

-- a test of what is seen of each
pub any_seen : {X Y : Type 0} (f : X → Y) (p : Y → Bool) (xs : List X) → list_any (λ x. p (f x)) xs ≡ list_any p (map f xs)
any_seen f p [] = refl
any_seen f p (x ∷ xs) = ap (λ (b : Bool). p (f x) || b) (any_seen f p xs)

cond_seen : {X Y : Type 0} (f : X → Y) (x : X) (xs : List X) (b : Bool) → map f (cond b (x ∷ xs) xs) ≡ cond b (f x ∷ map f xs) (map f xs)
cond_seen f x xs true = refl
cond_seen f x xs false = refl

pub filter_seen : {X Y : Type 0} (f : X → Y) (p : Y → Bool) (xs : List X) → map f (filter (λ x. p (f x)) xs) ≡ filter p (map f xs)
filter_seen f p [] = refl
filter_seen f p (x ∷ xs) =
    cond_seen f x (filter (λ x. p (f x)) xs) (p (f x))
    ∙ ap (λ ys. cond (p (f x)) (f x ∷ ys) ys) (filter_seen f p xs)

-- how many pass
pub filter_length : {X Y : Type 0} (f : X → Y) (p : Y → Bool) (xs : List X) → length (filter (λ x. p (f x)) xs) ≡ length (filter p (map f xs))
filter_length f p xs = sym (length-map (filter (λ x. p (f x)) xs) f) ∙ ap length (filter_seen f p xs)

-- a row more behind a front and rows, of those that pass
pub row_more : {X Y : Type 0} (f : X → Y) (p : Y → Bool) (row : Y → List ℕ) (front : List ℕ) (xs : List X) (i : ℕ) (one : X) → i < length xs →
    one ≡ get_or xs i one →
    (front ++ flat_map row (filter p (map f (take i xs)))) ++ flat_map row (if p (f one) then f one ∷ [] else [])
    ≡ front ++ flat_map row (filter p (map f (take (i + 1) xs)))
row_more f p row front xs i one below is =
    let before = filter p (map f (take i xs)) in
    append_assoc front (flat_map row before) (flat_map row (if p (f one) then f one ∷ [] else []))
    ∙ ap (λ (t : List ℕ). front ++ t)
    (sym (flat_map-append row before (if p (f one) then f one ∷ [] else []))
    ∙ ap (flat_map row) (sym (filter-append p (map f (take i xs)) (f one ∷ []))
    ∙ ap (filter p) (sym (map-append f (take i xs) (one ∷ []))
    ∙ ap (map f) (sym (take_more xs i one below ∙ ap (λ x. take i xs ++ x ∷ []) (sym is))))))
