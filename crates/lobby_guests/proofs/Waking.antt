-- Who is awake is found by the name of his socket.
use Rattle.std.proofs.Common.{◌≡◌, ◌≢◌, ◌<◌, ◌≤◌, ◌∙◌, ℕ, zero, suc, Bool, true, false, List, [], ◌∷◌, Option, None, length, get_or, set, refl, ap, sym, ltb, ltb-true, ltb-false, arith}
use Rattle.std.specs.Prelude.{◌==◌, if◌then◌else◌}
use Rattle.std.specs.List.{All, AllZip}
use Rattle.std.specs.List.Sorted.{IsPartitionPoint}
use Rattle.std.proofs.lemmas.Bool.{eq-eqb, ne_eqb}
use Rattle.lobby_guests.specs.declared.guest.Guest.{Guest}
use Rattle.lobby_guests.specs.Waking.{IsAwake, IsAwakeIfNamed, NamesGrow, number_named}

if_so : {X : Type 0} (b : Bool) (x y : X) → b ≡ true → (if b then x else y) ≡ x
if_so true x y is = refl
if_so false x y is = absurd (cc)

if_not : {X : Type 0} (b : Bool) (x y : X) → b ≡ false → (if b then x else y) ≡ y
if_not true x y is = absurd (cc)
if_not false x y is = refl

module _ {S : Type 0} (R : Guest S → Guest S → Type 0) (same : (guest : Guest S) → R guest guest) where
  pub all_same : (guests : List (Guest S)) → AllZip R guests guests
  all_same [] = tt
  all_same (guest ∷ guests) = (same guest, all_same guests)

  -- one is awake, and the others are as they were
  pub one_awake : (guests : List (Guest S)) (i : ℕ) (d after : Guest S) → i < length guests → R (get_or guests i d) after →
      AllZip R guests (set guests i after)
  one_awake [] i d after below one = absurd (omega (arith, below))
  one_awake (guest ∷ guests) zero d after below one = (one, all_same guests)
  one_awake (guest ∷ guests) (suc i) d after below one = (same guest, one_awake guests i d after (omega (arith, below)) one)

module _ {S : Type 0} (key : ℕ) where
  grow_behind : (guest : Guest S) (guests : List (Guest S)) → NamesGrow (guest ∷ guests) → NamesGrow guests
  grow_behind guest guests grow = λ i j d lt below. grow (suc i) (suc j) d (omega (arith, lt)) (omega (arith, below))

  none_behind : (guest : Guest S) (guests : List (Guest S)) → All (λ one. one.key ≢ key) (guest ∷ guests) → All (λ one. one.key ≢ key) guests
  none_behind guest guests none = λ k d below. none (suc k) d (omega (arith, below))

  -- where nobody has the name nobody is awake
  pub none_named : (guests : List (Guest S)) → All (λ one. one.key ≢ key) guests →
      AllZip (IsAwakeIfNamed key) guests guests × (number_named key guests ≡ None)
  none_named [] none = (tt, refl)
  none_named (guest ∷ guests) none =
      let other : guest.key ≢ key = none zero guest (omega arith) in
      let behind = none_named guests (none_behind guest guests none) in (
        (λ is. absurd (other is), behind.0),
        if_not (guest.key == key) guest.number (number_named key guests) (ne_eqb guest.key key other) ∙ behind.1,
      )

  -- who has it is
  pub one_named : (guests : List (Guest S)) (i : ℕ) (d after : Guest S) → NamesGrow guests → i < length guests →
      (get_or guests i d).key ≡ key → IsAwake (get_or guests i d) after →
      AllZip (IsAwakeIfNamed key) guests (set guests i after) × (number_named key guests ≡ (get_or guests i d).number)
  one_named [] i d after grow below is awake = absurd (omega (arith, below))
  one_named (guest ∷ guests) zero d after grow below is awake = (
    (
      λ same. awake,
      (none_named guests (λ k e lt.
          let more : guest.key < (get_or guests k e).key = grow zero (suc k) e (omega arith) (omega (arith, lt)) in
          λ same. omega (arith, more, is, same))).0,
    ),
    if_so (guest.key == key) guest.number (number_named key guests) (eq-eqb guest.key key is),
  )
  one_named (guest ∷ guests) (suc i) d after grow below is awake =
      let lt : i < length guests = omega (arith, below) in
      let more : guest.key < (get_or guests i d).key = grow zero (suc i) d (omega arith) below in
      let other : guest.key ≢ key = λ same. omega (arith, more, is, same) in
      let behind = one_named guests i d after (grow_behind guest guests grow) lt is awake in (
        (λ same. absurd (other same), behind.0),
        if_not (guest.key == key) guest.number (number_named key guests) (ne_eqb guest.key key other) ∙ behind.1,
      )

  -- names do not fall
  pub names_not_fall : (guests : List (Guest S)) → NamesGrow guests → (i j : ℕ) (d : Guest S) → i ≤ j → j < length guests →
      (get_or guests i d).key ≤ (get_or guests j d).key
  names_not_fall [] grow i j d le below = absurd (omega (arith, below))
  names_not_fall (guest ∷ guests) grow zero zero d le below = omega arith
  names_not_fall (guest ∷ guests) grow zero (suc j) d le below =
      let more : guest.key < (get_or guests j d).key = grow zero (suc j) d (omega arith) below in
      omega (arith, more)
  names_not_fall (guest ∷ guests) grow (suc i) zero d le below = absurd (omega (arith, le))
  names_not_fall (guest ∷ guests) grow (suc i) (suc j) d le below =
      names_not_fall guests (grow_behind guest guests grow) i j d (omega (arith, le)) (omega (arith, below))

  module _ (guests : List (Guest S)) (i : ℕ) (grow : NamesGrow guests)
      (point : IsPartitionPoint (λ (one : Guest S). ltb one.key key ≡ true) (λ (one : Guest S). ltb one.key key ≡ false) guests i)
      (not_it : (d : Guest S) → i < length guests → (get_or guests i d).key ≢ key) where
    by_place : (k : ℕ) (d : Guest S) → k < length guests → (before behind : Bool) → ltb k i ≡ before → ltb i k ≡ behind →
        (get_or guests k d).key ≢ key
    by_place k d below true behind is far =
        let less : (get_or guests k d).key < key = ltb-true _ _ (point.0 k d (omega arith) (ltb-true _ _ is)) in
        λ same. omega (arith, less, same)
    by_place k d below false true is far =
        let lt : i < k = ltb-true _ _ far in
        let least : key ≤ (get_or guests i d).key = ltb-false _ _ (point.1 i d (omega arith) (omega (arith, lt, below))) in
        let more : (get_or guests i d).key < (get_or guests k d).key = grow i k d lt below in
        λ same. omega (arith, least, more, same)
    by_place k d below false false is far =
        let here : k ≡ i = omega (arith, ltb-false _ _ is, ltb-false _ _ far) in
        λ same. not_it d (omega (arith, here, below)) (ap (λ (n : ℕ). (get_or guests n d).key) (sym here) ∙ same)

    -- nobody has a name where who is at the place up to which all names are smaller has not
    pub none_there : All (λ one. one.key ≢ key) guests
    none_there = λ k d below. by_place k d below (ltb k i) (ltb i k) refl refl
