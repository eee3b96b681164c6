-- The bytes of a beat, what a slot holds, and what two slots tell.
use Rattle.std.specs.Prelude.{◌≡◌, ℕ, ◌%◌, ◌^◌, ◌<◌, List, [], ◌∷◌, All, codes, take, nat_lt, if◌then◌else◌}
use Rattle.std.specs.Prelude.{Option, Some, None, Bool, true, false}
use Rattle.rec_codec.specs.Field.{Field, u64, laid, over}
use Rattle.sha2.specs.Sha256.{sha256}
use Rattle.server_clock.specs.declared.slots.Beat.{Beat}
use Rattle.server_clock.specs.declared.slots.Slot.{Slot}
use Rattle.server_clock.specs.declared.slots.Slot.TheVariants.{Holds, Torn, Empty, Foreign}

-- the eight bytes with which each slot starts
abbrev pub signature : Field
signature = record { offset = 0; width = 8; bytes = codes "FIDECLK1" }

-- the numbers of a beat
abbrev pub number_fields : Beat → List Field
number_fields beat = signature ∷ u64 8 beat.number ∷ u64 16 beat.moment ∷ u64 24 beat.system ∷ []

-- the 512 bytes before their sum is there
abbrev pub unsummed : Beat → List ℕ
unsummed beat = laid 512 (number_fields beat)

-- the sum of these, by SHA-256
abbrev pub sum_field : Beat → Field
sum_field beat = record { offset = 32; width = 32; bytes = sha256 (unsummed beat) }

-- the 512 bytes of a beat: its numbers and their sum at their places, and every other byte zero
abbrev pub slot_bytes : Beat → List ℕ
slot_bytes beat = over (unsummed beat) (sum_field beat)

-- the numbers of a beat fit their fields
pub record Fits (beat : Beat) : Type 0 where
  pub number : beat.number < 2 ^ 64
  pub moment : beat.moment < 2 ^ 64
  pub system : beat.system < 2 ^ 64

-- a beat of a slot, which is its number's remainder by 2
pub record IsBeatIn (slot : ℕ) (beat : Beat) : Type 0 where
  pub fits : Fits beat
  pub own_slot : beat.number % 2 ≡ slot

-- bytes start as those of a slot
abbrev pub IsSigned : List ℕ → Type 0
IsSigned bytes = take 8 bytes ≡ codes "FIDECLK1"

abbrev pub AreZeros : List ℕ → Type 0
AreZeros bytes = All (λ b. b ≡ 0) bytes

-- what the bytes of a slot, the first or the second of a file, hold: a beat; what starts as one and is none, since it
-- was not written to its end; zeros, as a new file has them; or something else
abbrev pub IsSlot : ℕ → List ℕ → Slot → Type 0
IsSlot slot bytes (Holds beat) = IsBeatIn slot beat × (bytes ≡ slot_bytes beat)
IsSlot slot bytes Torn = IsSigned bytes × ((beat : Beat) → IsBeatIn slot beat → bytes ≡ slot_bytes beat → ⊥)
IsSlot slot bytes Empty = (¬ IsSigned bytes) × AreZeros bytes
IsSlot slot bytes Foreign = (¬ IsSigned bytes) × (¬ AreZeros bytes)

-- the beat of a slot
abbrev pub beat_in : Slot → Option Beat
beat_in (Holds beat) = Some beat
beat_in _ = None

-- the one of two beats that has the greater number, or the one that there is
abbrev pub later : Option Beat → Option Beat → Option Beat
later None other = other
later (Some beat) None = Some beat
later (Some beat) (Some other) = if nat_lt beat.number other.number then Some other else Some beat

-- what the two slots of a file tell: the last beat that is whole
abbrev pub told : Slot → Slot → Option Beat
told first second = later (beat_in first) (beat_in second)
