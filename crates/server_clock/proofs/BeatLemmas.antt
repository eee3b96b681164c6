-- What two slots tell before, within and after a beat.
use Rattle.std.proofs.Common.{◌≡◌, ℕ, ◌+◌, ◌%◌, ◌^◌, ◌<◌, List, length, refl, sym, ◌∙◌, ap, subst, inl, inr, arith}
use Rattle.std.specs.Prelude.{◌≢◌, ◌⊎◌, Option, Some, None, Bool, true, false, nat_lt, if◌then◌else◌, slice_set}
use Rattle.std.proofs.lemmas.Bool.{lt-ltb, le-ltb, cases_eq}
use Rattle.std.proofs.lemmas.List.{get_or-set_same, get_or-set_other}
use Rattle.sector_dev.specs.declared.device.Sector.{Sector}
use Rattle.sector_dev.specs.declared.device.Sector.TheVariants.{Bytes, Unreadable}
use Rattle.sector_dev.specs.Image.{Sectors, sector_at}
use Rattle.sector_dev.specs.Device.{State, IsCoherent, IsStable, WithOrWithout, OldOrChanged}
use Rattle.sector_dev.specs.Runs.{IsAtRest, LeavesOnly}
use Rattle.sector_layout.specs.Calls.{Goes}
use Rattle.sector_layout.proofs.CallLemmas.{begun, rest_leaves}
use Rattle.server_clock.specs.declared.slots.Beat.{Beat}
use Rattle.server_clock.specs.declared.slots.Slot.{Slot}
use Rattle.server_clock.specs.declared.slots.Slot.TheVariants.{Holds, Torn, Empty, Foreign}
use Rattle.server_clock.specs.Slots.{slot_bytes, IsBeatIn, beat_in, later, told}
use Rattle.server_clock.proofs.SlotLemmas.{is-signed}
use Rattle.server_clock.specs.Beats.{IsSlotOf, Tell, TellEither, next_number, next_beat, next_slot}

-- each beat of a slot has its remainder
abbrev AreOf : ℕ → Option Beat → Type 0
AreOf at found = (beat : Beat) → found ≡ Some beat → beat.number % 2 ≡ at

-- two beats that follow one another have different slots
both-even : (n : ℕ) → n % 2 ≡ 0 → (n + 1) % 2 ≡ 0 → ⊥
both-even n a b = omega arith

both-odd : (n : ℕ) → n % 2 ≡ 1 → (n + 1) % 2 ≡ 1 → ⊥
both-odd n a b = omega arith

-- where the next beat has slot 0, the last one is in slot 1
in-second : (a b : Option Beat) → AreOf 0 a → next_number (later a b) % 2 ≡ 0 → b ≡ later a b
in-second None b even next = refl
in-second (Some x) None even next = absurd (both-even x.number (even x refl) next)
in-second (Some x) (Some y) even next =
    let P : Bool → Type 0 = λ v.
    next_number (if v then Some y else Some x) % 2 ≡ 0 → Some y ≡ (if v then Some y else Some x) in
    let cases : (v : Bool) → P v = elim [
      | true ↦ (λ n. refl)
      | false ↦ (λ n. absurd (both-even x.number (even x refl) n))
    ] in
    cases (nat_lt x.number y.number) next

-- and the other way round
in-first : (a b : Option Beat) → AreOf 1 b → next_number (later a b) % 2 ≡ 1 → a ≡ later a b
in-first None None odd next = refl
in-first None (Some y) odd next = absurd (both-odd y.number (odd y refl) next)
in-first (Some x) None odd next = refl
in-first (Some x) (Some y) odd next =
    let P : Bool → Type 0 = λ v.
    next_number (if v then Some y else Some x) % 2 ≡ 1 → Some x ≡ (if v then Some y else Some x) in
    let cases : (v : Bool) → P v = elim [
      | true ↦ (λ n. absurd (both-odd y.number (odd y refl) n))
      | false ↦ (λ n. refl)
    ] in
    cases (nat_lt x.number y.number) next

-- the next beat is the later one, whichever slot it has
next-first : (last : Option Beat) (moment system : ℕ)
    → later (Some (next_beat last moment system)) last ≡ Some (next_beat last moment system)
next-first None moment system = refl
next-first (Some x) moment system =
    let next = next_beat (Some x) moment system in
    let over : nat_lt (x.number + 1) x.number ≡ false = le-ltb (x.number + 1) x.number (omega arith) in
    ap (λ v. if v then Some x else Some next) over

next-second : (last : Option Beat) (moment system : ℕ)
    → later last (Some (next_beat last moment system)) ≡ Some (next_beat last moment system)
next-second None moment system = refl
next-second (Some x) moment system =
    let next = next_beat (Some x) moment system in
    let over : nat_lt x.number (x.number + 1) ≡ true = lt-ltb x.number (x.number + 1) (omega arith) in
    ap (λ v. if v then Some next else Some x) over

same-some : (x y : Beat) → Some x ≡ Some y → x ≡ y
same-some x y e = cc

-- a beat stands in its own slot
own-slot : (at : ℕ) (sector : Sector) (slot : Slot) → IsSlotOf at sector slot → AreOf at (beat_in slot)
own-slot at (Bytes bytes) (Holds x) is = λ y e. subst (λ (z : Beat). z.number % 2 ≡ at) (same-some x y e) is.0.own_slot
own-slot at (Bytes bytes) Torn is = λ y e. absurd (cc)
own-slot at (Bytes bytes) Empty is = λ y e. absurd (cc)
own-slot at (Bytes bytes) Foreign is = λ y e. absurd (cc)
own-slot at Unreadable slot is = λ y e. absurd (let none : None ≡ Some y = ap beat_in (sym is) ∙ e in cc)

-- what holds a beat, and what was not written to its end, is no foreign slot
holds-own : (beat : Beat) → Holds beat ≢ Foreign
holds-own beat e = absurd (cc)

torn-own : Torn ≢ Foreign
torn-own e = absurd (cc)

-- a sector that is written, and the other one
module _ (old : Sectors) (two : length old ≡ 2) (value : Sector) where
  set-first : sector_at (slice_set old 0 value) 0 ≡ value
  set-first = get_or-set_same old 0 value Unreadable (omega arith)

  set-second : sector_at (slice_set old 1 value) 1 ≡ value
  set-second = get_or-set_same old 1 value Unreadable (omega arith)

  first-stays : sector_at (slice_set old 1 value) 0 ≡ sector_at old 0
  first-stays = get_or-set_other old 1 0 value Unreadable (λ e. cc)

  second-stays : sector_at (slice_set old 0 value) 1 ≡ sector_at old 1
  second-stays = get_or-set_other old 0 1 value Unreadable (λ e. cc)

module _ (old : Sectors) (two : length old ≡ 2) (last : Option Beat) (tell : Tell old last) where
  -- what the slot of the last beat holds
  second-is-last : next_slot last ≡ 0 → beat_in tell.second ≡ last
  second-is-last next =
      in-second (beat_in tell.first) (beat_in tell.second) (own-slot 0 (sector_at old 0) tell.first tell.first_is)
      (subst (λ l. next_number l % 2 ≡ 0) tell.last_is next)
      ∙ sym tell.last_is

  first-is-last : next_slot last ≡ 1 → beat_in tell.first ≡ last
  first-is-last next =
      in-first (beat_in tell.first) (beat_in tell.second) (own-slot 1 (sector_at old 1) tell.second tell.second_is)
      (subst (λ l. next_number l % 2 ≡ 1) tell.last_is next)
      ∙ sym tell.last_is

  -- with another sector in the slot of the next beat
  over-first : (value : Sector) (slot : Slot) (new : Option Beat) → next_slot last ≡ 0 → IsSlotOf 0 value slot
      → slot ≢ Foreign → later (beat_in slot) last ≡ new → Tell (slice_set old 0 value) new
  over-first value slot new next is own tells = record {
    first = slot;
    second = tell.second;
    first_is = subst (λ s. IsSlotOf 0 s slot) (sym (set-first old two value)) is;
    second_is = subst (λ s. IsSlotOf 1 s tell.second) (sym (second-stays old two value)) tell.second_is;
    first_own = own;
    second_own = tell.second_own;
    last_is = sym tells ∙ ap (later (beat_in slot)) (sym (second-is-last next));
  }

  over-second : (value : Sector) (slot : Slot) (new : Option Beat) → next_slot last ≡ 1 → IsSlotOf 1 value slot
      → slot ≢ Foreign → later last (beat_in slot) ≡ new → Tell (slice_set old 1 value) new
  over-second value slot new next is own tells = record {
    first = tell.first;
    second = slot;
    first_is = subst (λ s. IsSlotOf 0 s tell.first) (sym (first-stays old two value)) tell.first_is;
    second_is = subst (λ s. IsSlotOf 1 s slot) (sym (set-second old two value)) is;
    first_own = tell.first_own;
    second_own = own;
    last_is = sym tells ∙ ap (λ l. later l (beat_in slot)) (sym (first-is-last next));
  }

none-later : (last : Option Beat) → later last None ≡ last
none-later None = refl
none-later (Some x) = refl

parity : (n : ℕ) → (n % 2 ≡ 0) ⊎ (n % 2 ≡ 1)
parity n = elim (cases_eq (n % 2) 0) [ inl zero ↦ inl zero | inr other ↦ inr (omega arith) ]

module _ (old : Sectors) (two : length old ≡ 2) (last : Option Beat) (tell : Tell old last) (moment system : ℕ)
    (number-fits : next_number last < 2 ^ 64) (moment-fits : moment < 2 ^ 64) (system-fits : system < 2 ^ 64) where
  abbrev next : Beat
  next = next_beat last moment system

  abbrev bytes : List ℕ
  bytes = slot_bytes next

  fits : (at : ℕ) → next_slot last ≡ at → IsBeatIn at next
  fits at own = record {
    fits = record { number = number-fits; moment = moment-fits; system = system-fits };
    own_slot = own;
  }

  -- once the next beat is written it is told
  pub kept : Tell (slice_set old (next_slot last) (Bytes bytes)) (Some next)
  kept = elim (parity (next_number last)) [
    | inl zero ↦ subst (λ (at : ℕ). Tell (slice_set old at (Bytes bytes)) (Some next)) (sym zero)
        (over-first old two last tell (Bytes bytes) (Holds next) (Some next) zero (fits 0 zero, refl) (holds-own next)
        (next-first last moment system))
    | inr one ↦ subst (λ (at : ℕ). Tell (slice_set old at (Bytes bytes)) (Some next)) (sym one)
        (over-second old two last tell (Bytes bytes) (Holds next) (Some next) one (fits 1 one, refl) (holds-own next)
        (next-second last moment system))
  ]

  -- where it was not written to its end the last one is
  pub torn : Tell (slice_set old (next_slot last) Unreadable) last
  torn = elim (parity (next_number last)) [
    | inl zero ↦ subst (λ (at : ℕ). Tell (slice_set old at Unreadable) last) (sym zero)
        (over-first old two last tell Unreadable Torn last zero refl torn-own refl)
    | inr one ↦ subst (λ (at : ℕ). Tell (slice_set old at Unreadable) last) (sym one)
        (over-second old two last tell Unreadable Torn last one refl torn-own (none-later last))
  ]

  -- so a crash within the beat leaves one of both
  pub either : (c : Sectors) → OldOrChanged old (next_slot last) bytes c → TellEither last next c
  either c (inl same) = inl (subst (λ s. Tell s last) (sym same) tell)
  either c (inr (inl written)) = inr (subst (λ s. Tell s (Some next)) (sym written) kept)
  either c (inr (inr lost)) = inl (subst (λ s. Tell s last) (sym lost) torn)

-- what a device at rest tells that has the last beat
module _ {D : Type 0} (state : D → State) (sector_count : D → ℕ) (old : D) (last : Option Beat) (next : Beat)
    (laws : IsCoherent (sector_count old) (state old)) (rest : IsAtRest (state old)) (tell : Tell (state old).reads last)
  where
    -- where nothing is written, the last beat
    pub left-alone : LeavesOnly (state old) (state old) (TellEither last next)
    left-alone =
        let P = TellEither last next in
        rest_leaves state sector_count old old P P laws rest (begun state sector_count old P) (inl tell) (λ c is. is)

    pub two-sectors : sector_count old ≡ 2 → length (state old).reads ≡ 2
    two-sectors two = laws.image_size (state old).reads rest.0 (laws.reads_are_image rest.0) ∙ two

module _ {D : Type 0} (state : D → State) (sector_count : D → ℕ) (old new : D) (last : Option Beat)
    (laws : IsCoherent (sector_count old) (state old)) (two : sector_count old ≡ 2) (moment system : ℕ)
    (number-fits : next_number last < 2 ^ 64) (moment-fits : moment < 2 ^ 64) (system-fits : system < 2 ^ 64)
    (rest : IsAtRest (state old)) (tell : Tell (state old).reads last) where
  abbrev following : Beat
  following = next_beat last moment system

  abbrev size : length (state old).reads ≡ 2
  size = two-sectors state sector_count old last following laws rest tell two

  -- while the next beat is written, that or the last one
  pub left-within : Goes state sector_count old new
      (WithOrWithout (next_slot last) (slot_bytes following) (state old).image)
      → LeavesOnly (state old) (state new) (TellEither last following)
  left-within goes =
      rest_leaves state sector_count old new (TellEither last following)
      (WithOrWithout (next_slot last) (slot_bytes following) (state old).image) laws rest goes (inl tell)
      (λ c with. either (state old).reads size last tell moment system number-fits moment-fits system-fits c
      (subst (λ (d : Sectors). OldOrChanged d (next_slot last) (slot_bytes following) c) (rest.1 with.0 with.1) with.2))

  -- and once it is
  pub left-after : (state new).keeps_model
      → IsStable (slice_set (state old).reads (next_slot last) (Bytes (slot_bytes following))) (state new)
      → IsAtRest (state new) × Tell (state new).reads (Some following)
  left-after model stable = (
    (model, λ c now. (stable.images c).0 now ∙ sym stable.reads),
    subst (λ (d : Sectors). Tell d (Some following)) (sym stable.reads)
        (kept (state old).reads size last tell moment system number-fits moment-fits system-fits),
  )

  -- the same of a number that is the next
  abbrev of-number : ℕ → Beat
  of-number number = record { number = number; moment = moment; system = system }

  pub within-by : (number : ℕ) → number ≡ next_number last
      → Goes state sector_count old new (WithOrWithout (number % 2) (slot_bytes (of-number number)) (state old).image)
      → LeavesOnly (state old) (state new) (TellEither last following)
  within-by number is goes =
      left-within (subst (λ (n : ℕ). Goes state sector_count old new
      (WithOrWithout (n % 2) (slot_bytes (of-number n)) (state old).image)) is goes)

  pub after-by : (number : ℕ) → number ≡ next_number last → (state new).keeps_model
      → IsStable (slice_set (state old).reads (number % 2) (Bytes (slot_bytes (of-number number)))) (state new)
      → IsAtRest (state new) × Tell (state new).reads (Some (of-number number))
  after-by number is model stable =
      subst (λ (n : ℕ). IsAtRest (state new) × Tell (state new).reads (Some (of-number n))) (sym is)
      (left-after model
      (subst (λ (n : ℕ). IsStable (slice_set (state old).reads (n % 2) (Bytes (slot_bytes (of-number n)))) (state new))
      is stable))

-- what is no slot is foreign alone
pub foreign-only : (at : ℕ) (sector : Sector) (slot : Slot) → IsSlotOf at sector slot → IsSlotOf at sector Foreign
    → slot ≡ Foreign
foreign-only at (Bytes content) (Holds beat) is alien = absurd (alien.0 (is-signed beat content is.1))
foreign-only at (Bytes content) Torn is alien = absurd (alien.0 is.0)
foreign-only at (Bytes content) Empty is alien = absurd (alien.1 is.1)
foreign-only at (Bytes content) Foreign is alien = refl
foreign-only at Unreadable slot is alien = absurd (let bad : Foreign ≡ Torn = alien in cc)
