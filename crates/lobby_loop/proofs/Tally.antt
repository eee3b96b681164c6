-- Addresses of which few are nameless, and players for whom few act, make no room.
use Rattle.std.proofs.Common.{ℕ, ◌≡◌, ◌≤◌, ◌-◌, ◌⊎◌, Bool, true, false, List, [], ◌∷◌, Option, None, Some, refl, ap, ◌∙◌, subst, inl, inr, arith}
use Rattle.std.specs.Prelude.{◌==◌, if◌then◌else◌}
use Rattle.std.specs.BTreeMap.{BTreeMap, get}
use Rattle.std.specs.Map.{count_at}
use Rattle.std.specs.Ordering.{nat_cmp}
use Rattle.std.proofs.lemmas.Bool.Decides.{nat_tests}
use Rattle.lobby_guests.specs.declared.place.Place.{Place}
use Rattle.lobby_loop.specs.declared.places.Class.{Class}
use Rattle.lobby_loop.specs.declared.places.Class.TheVariants.{Nameless, Idle, Own}
use Rattle.lobby_loop.specs.Places.{is_nameless, counted, count_of, leave, make_room, room_for, IsTallied, own_room, number_of, IsTalliedByName}
use Rattle.lobby_loop.proofs.Room.{fewer, nameless_closable, room_keeps, room_made, fewer_own, room_owns}

leave_none : (P : Place → Bool) (ps : List Place) → leave P 0 ps ≡ ps
leave_none P [] = refl
leave_none P (p ∷ ps) = ap (λ qs. p ∷ qs) (leave_none P ps)

room_none : (address : Option ℕ) (most : ℕ) (ps : List Place) → count_of address Nameless ps ≤ most → make_room address most ps ≡ ps
room_none address most ps few =
    let none : count_of address Nameless ps - most ≡ 0 = omega (arith, few) in
    let last : List Place → List Place = λ rest. leave (counted address Nameless) (count_of address Nameless rest - most) rest in
    ap (λ n. last (leave (counted address Idle) n ps)) none ∙ ap last (leave_none (counted address Idle) ps)
    ∙ ap (λ n. leave (counted address Nameless) n ps) none ∙ leave_none (counted address Nameless) ps

-- where no more than 32 are told at an address there are no more
few_there : (tally : BTreeMap ℕ ℕ) (ps : List Place) (a : ℕ) → IsTallied tally ps → count_at (get nat_cmp tally) a ≤ 32 →
    count_of (Some a) Nameless ps ≤ 32
few_there tally ps a tallied few = omega (arith, tallied a, few)

cases : (b : Bool) → (b ≡ true) ⊎ (b ≡ false)
cases true = inl refl
cases false = inr refl

pub stays_few : (tally : BTreeMap ℕ ℕ) (a : ℕ) (place : Place) (ps : List Place) → IsTallied tally ps → place.address ≡ Some a →
    count_at (get nat_cmp tally) a ≤ 32 → room_for place ps ≡ ps
stays_few tally a place ps tallied is few = elim (cases (is_nameless place.role)) [
  | inl is_so ↦ rw (is_so, is) (room_none (Some a) 32 ps (few_there tally ps a tallied few))
  | inr not_so ↦ rw not_so refl
]

pub tallied_after : (tally told : BTreeMap ℕ ℕ) (a number : ℕ) (ps : List Place) → number ≡ a → IsTallied tally ps →
    ((b : ℕ) → count_at (get nat_cmp told) b ≡ (if number == b then 32 else count_at (get nat_cmp tally) b)) →
    IsTallied told (make_room (Some a) 32 ps)
tallied_after tally told a number ps number_is tallied tells b =
    let is : (c : ℕ) → count_at (get nat_cmp told) c ≡ (if a == c then 32 else count_at (get nat_cmp tally) c) =
    subst (λ (n : ℕ). (c : ℕ) → count_at (get nat_cmp told) c ≡ (if n == c then 32 else count_at (get nat_cmp tally) c)) number_is tells in
    let less : count_of (Some b) Nameless (make_room (Some a) 32 ps) ≤ count_of (Some b) Nameless ps =
    fewer (counted (Some b) Nameless) (nameless_closable (Some b)) ps (make_room (Some a) 32 ps) (room_keeps (Some a) 32 ps) in
    elim (cases (a == b)) [
      | inl same ↦
          let so : a ≡ b = grind (arith, nat_tests, same) in
          let here : count_at (get nat_cmp told) b ≡ 32 = is b ∙ rw same refl in
          let few : count_of (Some b) Nameless (make_room (Some a) 32 ps) ≤ 32 =
          subst (λ c. count_of (Some c) Nameless (make_room (Some a) 32 ps) ≤ 32) so (room_made (Some a) 32 ps) in
          omega (arith, here, few)
      | inr other ↦
          let here : count_at (get nat_cmp told) b ≡ count_at (get nat_cmp tally) b = is b ∙ rw other refl in
          omega (arith, here, less, tallied b)
    ]

-- ---- players

-- where no more than 16 are told for a player no more act for him
pub owns_few : (tally : BTreeMap ℕ ℕ) (name : List ℕ) (ps : List Place) → IsTalliedByName tally ps →
    count_at (get nat_cmp tally) (number_of name) ≤ 16 → own_room (Some name) ps ≡ ps
owns_few tally name ps tallied few =
    let none : count_of None (Own name) ps - 16 ≡ 0 = omega (arith, tallied name, few) in
    ap (λ n. leave (counted None (Own name)) n ps) none ∙ leave_none (counted None (Own name)) ps

pub owns_tallied : (tally : BTreeMap ℕ ℕ) (player : Option (List ℕ)) (ps : List Place) → IsTalliedByName tally ps →
    IsTalliedByName tally (own_room player ps)
owns_tallied tally player ps tallied name =
    omega (arith, tallied name, fewer_own name ps (own_room player ps) (room_owns player ps))
