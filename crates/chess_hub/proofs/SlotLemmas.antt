-- The keys of a slab.
use Rattle.std.proofs.Common.{◌≡◌, ◌↔◌, ℕ, zero, suc, ◌+◌, ◌<◌, ◌≤◌, List, [], ◌∷◌, length, map, get_or, refl, ap, sym, ◌∙◌, arith, Option, Some, None, inl, inr, true, false}
use Rattle.std.specs.Prelude.{IsSome, is_some}
use Rattle.std.specs.List.{All, Contains}
use Rattle.std.specs.List.Sorted.{IsStrictlyIncreasing}
use Rattle.std.proofs.lemmas.List.Elements.{All-head, All-tail, Contains-get_or}
use Rattle.slab.specs.Slab.{Slab, get, entries_from, entries}
use Rattle.slab.proofs.SlabLemmas.{Contains-entries, Contains-cons, Contains-cons_cases}

pub Contains-map : {X Y : Type 0} (f : X → Y) (xs : List X) (x : X) → Contains xs x → Contains (map f xs) (f x)
Contains-map f [] x h = absurd (omega (arith, h.1))
Contains-map f (y ∷ xs) x h =
    elim (Contains-cons_cases y x xs h) [
      | inl e ↦ (0, omega arith, ap f e)
      | inr h ↦ Contains-cons (f y) (f x) (map f xs) (Contains-map f xs x h)
    ]

pub Contains-mapped : {X Y : Type 0} (f : X → Y) (xs : List X) (y : Y) → Contains (map f xs) y →
    (x : X) × Contains xs x × (f x ≡ y)
Contains-mapped f [] y h = absurd (omega (arith, h.1))
Contains-mapped f (x ∷ xs) y h =
    elim (Contains-cons_cases (f x) y (map f xs) h) [
      | inl e ↦ (x, (0, omega arith, refl), e)
      | inr h ↦ let later = Contains-mapped f xs y h in (later.0, Contains-cons x later.0 xs later.1, later.2)
    ]

pub map-agree : {X Y : Type 0} (f g : X → Y) (xs : List X) → All (λ x. f x ≡ g x) xs → map f xs ≡ map g xs
map-agree f g [] h = refl
map-agree f g (x ∷ xs) h =
    ap (λ y. y ∷ map f xs) (All-head (λ x. f x ≡ g x) x xs h)
    ∙ ap (λ ys. g x ∷ ys) (map-agree f g xs (All-tail (λ x. f x ≡ g x) x xs h))

module _ {T : Type 0} where
  -- the keys of slots, where the first has this key
  abbrev pub keys_from : ℕ → List (Option T) → List ℕ
  keys_from key slots = map (λ e. e.0) (entries_from key slots)

  abbrev pub keys : Slab T → List ℕ
  keys s = keys_from 0 s.slots

  keys-past : (key : ℕ) (slots : List (Option T)) (k : ℕ) → k < length (keys_from key slots) →
      key ≤ get_or (keys_from key slots) k 0
  keys-past key [] k within = absurd (omega arith)
  keys-past key (None ∷ slots) k within =
      let later : key + 1 ≤ get_or (keys_from (key + 1) slots) k 0 = keys-past (key + 1) slots k within in omega arith
  keys-past key (Some value ∷ slots) zero within = omega arith
  keys-past key (Some value ∷ slots) (suc k) within =
      let later : key + 1 ≤ get_or (keys_from (key + 1) slots) k 0 = keys-past (key + 1) slots k (omega arith) in
      omega arith

  keys-rise_from : (key : ℕ) (slots : List (Option T)) → IsStrictlyIncreasing (keys_from key slots)
  keys-rise_from key [] k within = absurd (omega arith)
  keys-rise_from key (None ∷ slots) k within = keys-rise_from (key + 1) slots k within
  keys-rise_from key (Some value ∷ slots) zero within =
      let later : key + 1 ≤ get_or (keys_from (key + 1) slots) 0 0 = keys-past (key + 1) slots 0 (omega arith) in
      omega arith
  keys-rise_from key (Some value ∷ slots) (suc k) within =
      let next : suc k + 1 ≡ suc (k + 1) = omega arith in
      let later : get_or (keys_from (key + 1) slots) k 0 < get_or (keys_from (key + 1) slots) (k + 1) 0 =
      keys-rise_from (key + 1) slots k (omega arith) in
      rw next later

  pub keys-rise : (s : Slab T) → IsStrictlyIncreasing (keys s)
  keys-rise s = keys-rise_from 0 s.slots

  some-value : (o : Option T) → IsSome o → (value : T) × (o ≡ Some value)
  some-value None some = absurd (let bad : false ≡ true = some in cc)
  some-value (Some value) some = (value, refl)

  -- these are the keys that have a value
  pub keys-are : (s : Slab T) (key : ℕ) → Contains (keys s) key ↔ IsSome (get s key)
  keys-are s key = (
    λ h. (let e = Contains-mapped (λ (e : ℕ × T). e.0) (entries s) key h in
        let found : get s e.0.0 ≡ Some e.0.1 = (Contains-entries s e.0.0 e.0.1).0 e.1 in
        let here : get s key ≡ Some e.0.1 = ap (get s) (sym e.2) ∙ found in
        ap is_some here),
    λ some. (let value = some-value (get s key) some in
        Contains-map (λ (e : ℕ × T). e.0) (entries s) (key, value.0)
        ((Contains-entries s key value.0).1 value.1)),
  )

  -- of each entry the key has the value
  pub entries-are : (s : Slab T) → All (λ e. get s e.0 ≡ Some e.1) (entries s)
  entries-are s k d within =
      let e : ℕ × T = get_or (entries s) k d in
      (Contains-entries s e.0 e.1).0 (Contains-get_or (entries s) k d within)
