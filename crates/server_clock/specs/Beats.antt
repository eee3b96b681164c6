-- What a device of two sectors tells of beats.
use Rattle.std.specs.Prelude.{◌≡◌, ◌≢◌, ℕ, ◌+◌, ◌%◌, ◌⊎◌, Option, Some, None}
use Rattle.sector_dev.specs.declared.device.Sector.{Sector}
use Rattle.sector_dev.specs.declared.device.Sector.TheVariants.{Bytes, Unreadable}
use Rattle.sector_dev.specs.Image.{Sectors, sector_at}
use Rattle.server_clock.specs.declared.slots.Beat.{Beat}
use Rattle.server_clock.specs.declared.slots.Slot.{Slot}
use Rattle.server_clock.specs.declared.slots.Slot.TheVariants.{Torn, Foreign}
use Rattle.server_clock.specs.Slots.{IsSlot, told}

-- what a sector holds as a slot: an unreadable one is torn
abbrev pub IsSlotOf : ℕ → Sector → Slot → Type 0
IsSlotOf at (Bytes bytes) slot = IsSlot at bytes slot
IsSlotOf at Unreadable slot = slot ≡ Torn

-- both sectors are slots, and tell this beat as the last one, or none
pub record Tell (sectors : Sectors) (last : Option Beat) : Type 0 where
  pub first : Slot
  pub second : Slot
  pub first_is : IsSlotOf 0 (sector_at sectors 0) first
  pub second_is : IsSlotOf 1 (sector_at sectors 1) second
  pub first_own : first ≢ Foreign
  pub second_own : second ≢ Foreign
  pub last_is : last ≡ told first second

-- one of them is no slot
abbrev pub AreForeign : Sectors → Type 0
AreForeign sectors = IsSlotOf 0 (sector_at sectors 0) Foreign ⊎ IsSlotOf 1 (sector_at sectors 1) Foreign

-- the number of the next beat
abbrev pub next_number : Option Beat → ℕ
next_number None = 0
next_number (Some beat) = beat.number + 1

-- the next beat
abbrev pub next_beat : Option Beat → (moment system : ℕ) → Beat
next_beat last moment system = record { number = next_number last; moment = moment; system = system }

-- the slot of the next beat, which is not that of the last
abbrev pub next_slot : Option Beat → ℕ
next_slot last = next_number last % 2

-- they tell the last beat or the next
abbrev pub TellEither : Option Beat → Beat → Sectors → Type 0
TellEither last next sectors = Tell sectors last ⊎ Tell sectors (Some next)
