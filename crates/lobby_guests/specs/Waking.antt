-- Whose socket may be ready, by its name.
use Rattle.std.specs.Prelude.{ℕ, ◌≡◌, ◌≢◌, ◌<◌, ◌==◌, true, if◌then◌else◌, List, [], ◌∷◌, Option, None, Some, length}
use Rattle.std.specs.List.{All, AllPairs, HoldsAt}
use Rattle.lobby_guests.specs.declared.guest.Guest.{Guest}
use Rattle.lobby_guests.specs.Guests.{IsLeftAlone}

-- It may be read and written to again.
pub record IsAwake {S : Type 0} (old new : Guest S) : Type 0 where
  pub alone : IsLeftAlone old new
  pub ready : (new.can_read ≡ true) × (new.can_write ≡ true)

-- Nobody is awake but who has this name.
abbrev pub StaysUnlessNamed : {S : Type 0} → ℕ → Guest S → Guest S → Type 0
StaysUnlessNamed key old new = old.key ≢ key → new ≡ old

-- Who has it is.
abbrev pub IsAwakeIfNamed : {S : Type 0} → ℕ → Guest S → Guest S → Type 0
IsAwakeIfNamed key old new = old.key ≡ key → IsAwake old new

-- The names of sockets grow in the order in which they came.
abbrev pub NamesGrow : {S : Type 0} → List (Guest S) → Type 0
NamesGrow guests = AllPairs (λ earlier later. earlier.key < later.key) guests

-- The place of who has this name; where there is none nobody has it, if names grow.
abbrev pub IsPlaceNamed : {S : Type 0} → ℕ → List (Guest S) → Option ℕ → Type 0
IsPlaceNamed key guests None = NamesGrow guests → All (λ guest. guest.key ≢ key) guests
IsPlaceNamed key guests (Some place) = (place < length guests) × HoldsAt (λ guest. guest.key ≡ key) guests place

-- the number at the desk of who has this name, if anybody has
abbrev pub number_named : {S : Type 0} → ℕ → List (Guest S) → Option ℕ
number_named key [] = None
number_named key (guest ∷ guests) = if guest.key == key then guest.number else number_named key guests
