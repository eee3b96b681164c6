-- The computed list of images holds the images, each of them and nothing else.
use Rattle.std.proofs.Common.{◌≡◌, ◌⊎◌, ◌<◌, ◌+◌, ◌==◌, ◌↔◌, inl, inr, refl, sym, ap, subst, arith}
use Rattle.std.specs.Prelude.{ℕ, zero, suc, List, [], ◌∷◌, length, map, Contains}
use Rattle.std.proofs.lemmas.Bool.{cond_both, eqb-true, eqb-false}
use Rattle.std.proofs.lemmas.List.Elements.{Contains-append_left, Contains-append_right, Contains-append_cases}
use Rattle.sector_dev.specs.declared.device.Sector.{Sector}
use Rattle.sector_dev.specs.declared.device.Sector.TheVariants.{Bytes, Unreadable}
use Rattle.sector_dev.specs.Image.{Sectors, sector_at, Write, MayBecome, IsWritten, Image, values, each_before, images}

-- an element is the first one or among the others
first_or_later : {X : Type 0} (x : X) (xs : List X) (y : X) → Contains (x ∷ xs) y → (x ≡ y) ⊎ Contains xs y
first_or_later x xs y (zero, within, is) = inl is
first_or_later x xs y (suc k, within, is) = inr (k, omega arith, is)

-- the first one is an element
first_contained : {X : Type 0} (x : X) (xs : List X) (y : X) → x ≡ y → Contains (x ∷ xs) y
first_contained x xs y is = (zero, omega arith, is)

-- an element stays one where another is put before it
later_contained : {X : Type 0} (x : X) (xs : List X) (y : X) → Contains xs y → Contains (x ∷ xs) y
later_contained x xs y (k, within, is) = (suc k, omega arith, is)

-- the stable value, or what a write to this sector may leave
abbrev IsValue : ℕ → Sector → List Write → Sector → Type 0
IsValue at stable pending value = (value ≡ stable) ⊎ IsWritten pending at value

-- a value that a crash may leave stays one with a write more
value_with_more : (at : ℕ) (stable : Sector) (w : Write) (ws : List Write) (value : Sector)
    → IsValue at stable ws value → IsValue at stable (w ∷ ws) value
value_with_more at stable w ws value (inl same) = inl same
value_with_more at stable w ws value (inr later) = inr (inr later)

-- what a write to this sector may leave is listed before the rest
become_listed : (bytes : List ℕ) (rest : List Sector) (value : Sector) → MayBecome bytes value
    → Contains (Bytes bytes ∷ Unreadable ∷ rest) value
become_listed bytes rest value (inl written) = first_contained (Bytes bytes) (Unreadable ∷ rest) value (sym written)
become_listed bytes rest value (inr unreadable) =
    later_contained (Bytes bytes) (Unreadable ∷ rest) value (first_contained Unreadable rest value (sym unreadable))

-- what is listed before the rest may be left by the write
listed_become : (bytes : List ℕ) (rest : List Sector) (value : Sector) → Contains (Bytes bytes ∷ Unreadable ∷ rest) value
    → MayBecome bytes value ⊎ Contains rest value
listed_become bytes rest value listed = elim (first_or_later (Bytes bytes) (Unreadable ∷ rest) value listed) [
  | inl same ↦ inl (inl (sym same))
  | inr later ↦ elim (first_or_later Unreadable rest value later) [
    | inl same ↦ inl (inr (sym same))
    | inr last ↦ inr last
  ]
]

-- what is listed without a write is listed with it
listed_with_more : (at : ℕ) (stable : Sector) (w : Write) (ws : List Write) (value : Sector)
    → Contains (values at stable ws) value → Contains (values at stable (w ∷ ws)) value
listed_with_more at stable w ws value listed =
    cond_both (w.sector == at) (Bytes w.value ∷ Unreadable ∷ values at stable ws) (values at stable ws)
    (λ (xs : List Sector). Contains xs value)
    (λ yes. later_contained (Bytes w.value) (Unreadable ∷ values at stable ws) value
    (later_contained Unreadable (values at stable ws) value listed))
    (λ no. listed)

-- what a write to this sector may leave is listed
written_listed : (at : ℕ) (stable : Sector) (w : Write) (ws : List Write) (value : Sector)
    → (w.sector ≡ at) × MayBecome w.value value → Contains (values at stable (w ∷ ws)) value
written_listed at stable w ws value here =
    cond_both (w.sector == at) (Bytes w.value ∷ Unreadable ∷ values at stable ws) (values at stable ws)
    (λ (xs : List Sector). Contains xs value)
    (λ yes. become_listed w.value (values at stable ws) value here.1)
    (λ no. absurd (eqb-false w.sector at no here.0))

-- a value that a crash may leave is listed
value_listed : (at : ℕ) (stable : Sector) (pending : List Write) (value : Sector)
    → IsValue at stable pending value → Contains (values at stable pending) value
value_listed at stable [] value (inl same) = first_contained stable [] value (sym same)
value_listed at stable [] value (inr none) = absurd none
value_listed at stable (w ∷ ws) value (inl same) =
    listed_with_more at stable w ws value (value_listed at stable ws value (inl same))
value_listed at stable (w ∷ ws) value (inr (inl here)) = written_listed at stable w ws value here
value_listed at stable (w ∷ ws) value (inr (inr later)) =
    listed_with_more at stable w ws value (value_listed at stable ws value (inr later))

-- what is listed is a value that a crash may leave
listed_value : (at : ℕ) (stable : Sector) (pending : List Write) (value : Sector)
    → Contains (values at stable pending) value → IsValue at stable pending value
listed_value at stable [] value listed = elim (first_or_later stable [] value listed) [
  | inl same ↦ inl (sym same)
  | inr none ↦ absurd (omega (arith, none.1))
]
listed_value at stable (w ∷ ws) value listed =
    cond_both (w.sector == at) (Bytes w.value ∷ Unreadable ∷ values at stable ws) (values at stable ws)
    (λ (xs : List Sector). Contains xs value → IsValue at stable (w ∷ ws) value)
    (λ yes held. elim (listed_become w.value (values at stable ws) value held) [
      | inl become ↦ inr (inl (eqb-true w.sector at yes, become))
      | inr later ↦ value_with_more at stable w ws value (listed_value at stable ws value later)
    ])
    (λ no held. value_with_more at stable w ws value (listed_value at stable ws value held))
    listed

-- the value before a listed rest is listed
before_listed : (value : Sector) (rests : List Sectors) (rest : Sectors)
    → Contains rests rest → Contains (map (λ rest. value ∷ rest) rests) (value ∷ rest)
before_listed value [] rest (k, within, is) = absurd (omega arith)
before_listed value (r ∷ rs) rest listed = elim (first_or_later r rs rest listed) [
  | inl same ↦
      first_contained (value ∷ r) (map (λ rest. value ∷ rest) rs) (value ∷ rest)
      (ap (λ (x : Sectors). value ∷ x) same)
  | inr later ↦
      later_contained (value ∷ r) (map (λ rest. value ∷ rest) rs) (value ∷ rest) (before_listed value rs rest later)
]

-- each value is listed before each rest
each_before_listed : (of : List Sector) (rests : List Sectors) (value : Sector) (rest : Sectors)
    → Contains of value → Contains rests rest → Contains (each_before of rests) (value ∷ rest)
each_before_listed [] rests value rest (k, within, is) after = absurd (omega arith)
each_before_listed (v ∷ vs) rests value rest listed after = elim (first_or_later v vs value listed) [
  | inl same ↦
      subst (λ (x : Sector). Contains (each_before (v ∷ vs) rests) (x ∷ rest)) same
      (Contains-append_left (map (λ rest. v ∷ rest) rests) (each_before vs rests) (v ∷ rest)
      (before_listed v rests rest after))
  | inr later ↦
      Contains-append_right (map (λ rest. v ∷ rest) rests) (each_before vs rests) (value ∷ rest)
      (each_before_listed vs rests value rest later after)
]

-- one of these values before one of these rests
record IsBefore (of : List Sector) (rests : List Sectors) (c : Sectors) : Type 0 where
  value : Sector
  rest : Sectors
  is : value ∷ rest ≡ c
  of_values : Contains of value
  of_rests : Contains rests rest

-- what is listed for one value has it before a listed rest
listed_before : (value : Sector) (rests : List Sectors) (c : Sectors)
    → Contains (map (λ rest. value ∷ rest) rests) c → (rest : Sectors) × (value ∷ rest ≡ c) × Contains rests rest
listed_before value [] c (k, within, is) = absurd (omega arith)
listed_before value (r ∷ rs) c listed = elim (first_or_later (value ∷ r) (map (λ rest. value ∷ rest) rs) c listed) [
  | inl same ↦ (r, same, first_contained r rs r refl)
  | inr later ↦ let e = listed_before value rs c later in (e.0, e.1, later_contained r rs e.0 e.2)
]

-- what is listed is one of the values before one of the rests
listed_each_before : (of : List Sector) (rests : List Sectors) (c : Sectors)
    → Contains (each_before of rests) c → IsBefore of rests c
listed_each_before [] rests c (k, within, is) = absurd (omega arith)
listed_each_before (v ∷ vs) rests c listed =
    elim (Contains-append_cases (map (λ rest. v ∷ rest) rests) (each_before vs rests) c listed) [
      | inl first ↦
          let e = listed_before v rests c first in
          record { value = v; rest = e.0; is = e.1; of_values = first_contained v vs v refl; of_rests = e.2 }
      | inr later ↦
          let e = listed_each_before vs rests c later in
          let among = later_contained v vs e.value e.of_values in
          record { value = e.value; rest = e.rest; is = e.is; of_values = among; of_rests = e.of_rests }
    ]

-- an image of sectors of which the first has the number `at`
record ImageFrom (at : ℕ) (stable : Sectors) (pending : List Write) (image : Sectors) : Type 0 where
  size : length image ≡ length stable
  each : (number k : ℕ) → number ≡ at + k → k < length stable
      → IsValue number (sector_at stable k) pending (sector_at image k)

-- each sector of a value before an image of the others
joined_each : (at : ℕ) (first : Sector) (stable : Sectors) (pending : List Write)
    (value : Sector) (rest : Sectors) → IsValue at first pending value → ImageFrom (at + 1) stable pending rest
    → (number k : ℕ) → number ≡ at + k → k < length (first ∷ stable)
    → IsValue number (sector_at (first ∷ stable) k) pending (sector_at (value ∷ rest) k)
joined_each at first stable pending value rest here i number zero is within =
    let same : at ≡ number = omega arith in
    subst (λ (n : ℕ). IsValue n first pending value) same here
joined_each at first stable pending value rest here i number (suc k) is within =
    i.each number k (omega arith) (omega arith)

-- a value of the first sector before an image of the others is an image
joined : (at : ℕ) (first : Sector) (stable : Sectors) (pending : List Write)
    (value : Sector) (rest : Sectors) → IsValue at first pending value → ImageFrom (at + 1) stable pending rest
    → ImageFrom at (first ∷ stable) pending (value ∷ rest)
joined at first stable pending value rest here i = record {
  size = omega (arith, i.size);
  each = joined_each at first stable pending value rest here i;
}

-- an image without its first sector is one of the others
rest_image : (at : ℕ) (first : Sector) (stable : Sectors) (pending : List Write)
    (value : Sector) (rest : Sectors) → ImageFrom at (first ∷ stable) pending (value ∷ rest)
    → ImageFrom (at + 1) stable pending rest
rest_image at first stable pending value rest i = record {
  size = omega (arith, i.size);
  each = λ number k is within. i.each number (suc k) (omega arith) (omega arith);
}

-- what is listed is an image
listed_image : (at : ℕ) (stable : Sectors) (pending : List Write) (c : Sectors)
    → Contains (images at stable pending) c → ImageFrom at stable pending c
listed_image at [] pending c listed = elim (first_or_later [] [] c listed) [
  | inl same ↦
      subst (λ (x : Sectors). ImageFrom at [] pending x) same
      (record { size = refl; each = λ number k is within. absurd (omega arith) })
  | inr none ↦ absurd (omega (arith, none.1))
]
listed_image at (first ∷ stable) pending c listed =
    let e = listed_each_before (values at first pending) (images (at + 1) stable pending) c listed in
    subst (λ (x : Sectors). ImageFrom at (first ∷ stable) pending x) e.is
    (joined at first stable pending e.value e.rest
    (listed_value at first pending e.value e.of_values)
    (listed_image (at + 1) stable pending e.rest e.of_rests))

-- an image is listed
image_listed : (at : ℕ) (stable : Sectors) (pending : List Write) (c : Sectors)
    → ImageFrom at stable pending c → Contains (images at stable pending) c
image_listed at [] pending [] i = first_contained [] [] [] refl
image_listed at [] pending (value ∷ rest) i = absurd (omega (arith, i.size))
image_listed at (first ∷ stable) pending [] i = absurd (omega (arith, i.size))
image_listed at (first ∷ stable) pending (value ∷ rest) i =
    each_before_listed (values at first pending) (images (at + 1) stable pending) value rest
    (value_listed at first pending value (i.each at zero (omega arith) (omega arith)))
    (image_listed (at + 1) stable pending rest (rest_image at first stable pending value rest i))

-- the list of images holds each image and nothing else
pub images_exact : (stable : Sectors) (pending : List Write) (c : Sectors)
    → Contains (images 0 stable pending) c ↔ Image stable pending c
images_exact stable pending c = (
  λ listed.
      let i = listed_image 0 stable pending c listed in
      record { size = i.size; each = λ k within. i.each k k (omega arith) within },
  λ i. image_listed 0 stable pending c (record {
    size = i.size;
    each = λ number k is within.
        let same : k ≡ number = omega arith in
        subst (λ (n : ℕ). IsValue n (sector_at stable k) pending (sector_at c k)) same
        (i.each k within);
  }),
)
