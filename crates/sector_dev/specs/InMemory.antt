-- A device in memory as its clauses see it.
use Rattle.std.specs.Prelude.{◌≡◌, ◌⊎◌, ◌≤◌, ◌+◌, ◌-◌, ◌^◌, min, ℕ, List, Some, None, false, true, length, replicate}
use Rattle.std.specs.Prelude.{vec_len, vec_capacity}
use Rattle.sector_dev.specs.Device.{State, IsStable}
use Rattle.sector_dev.specs.declared.device.Sector.TheVariants.{Bytes}
use Rattle.sector_dev.specs.Image.{Sectors}
use Rattle.sector_dev.specs.Replay.{recorded_state}
use Rattle.sector_dev.specs.declared.memory.MemoryDevice.{MemoryDevice}
use Rattle.sector_dev.specs.Memory.{Disk, step, disk_after, at_rest}
use Rattle.sector_dev.specs.declared.memory.Call.TheVariants.{Written}

-- its stable values and pending writes
abbrev pub disk_of : MemoryDevice → Disk
disk_of m = disk_after (at_rest m.base.items) m.calls.items

-- how many sectors it has
abbrev pub sector_count_of : MemoryDevice → ℕ
sector_count_of m = length m.base.items

-- what is known of it; it keeps the model always
abbrev pub state_of : MemoryDevice → State
state_of m = recorded_state m.stops m.base.items m.calls.items

-- for how many more writes and syncs it has memory
abbrev pub room_of : MemoryDevice → ℕ
room_of m = vec_capacity m.calls - vec_len m.calls

-- no call is left, or there is no memory for one
abbrev pub IsStopped : MemoryDevice → Type 0
IsStopped m = (m.calls_left ≡ Some 0) ⊎ (room_of m ≡ 0)

-- sectors of zeros
abbrev pub zeros : ℕ → Sectors
zeros sectors = replicate sectors (Bytes (replicate 512 0))

-- it keeps the model, and has zeros, stable, nothing pending, calls not limited, and no failure so far
pub record IsZeroed (sectors : ℕ) (device : MemoryDevice) : Type 0 where
  pub keeps_model : (state_of device).keeps_model
  pub sector_count : sector_count_of device ≡ sectors
  pub stable : IsStable (zeros sectors) (state_of device)
  pub disk : disk_of device ≡ at_rest (zeros sectors)
  pub calls_left : device.calls_left ≡ None
  pub failed_pending : device.failed_pending ≡ false
  pub failures : device.failures ≡ 0

-- stable values and pending writes stay, and whether a failed write is one of them
pub record KeepsDisk (old new : MemoryDevice) : Type 0 where
  pub disk : disk_of new ≡ disk_of old
  pub failed_pending : new.failed_pending ≡ old.failed_pending

-- A write that fails has changed nothing. Where it is the first that fails since the device was armed, that is because
-- memory was refused too, which counts as one more failure: there was none for one more call.
pub record IsRefused (old new : MemoryDevice) : Type 0 where
  pub kept : KeepsDisk old new
  pub cause : (room_of old ≡ 0) ⊎ ((old.calls_left ≡ Some 0) × (old.failed_pending ≡ true))
  pub counted : old.calls_left ≡ Some 0 → old.failed_pending ≡ false
      → min (old.failures + 2) (2 ^ 64 - 1) ≤ new.failures

-- the write is the last pending one
abbrev pub Pends : ℕ → List ℕ → MemoryDevice → MemoryDevice → Type 0
Pends at value old new = disk_of new ≡ step (disk_of old) (Written at value)

-- Of the writes that fail because the device is armed, this is the first since it was, and it is pending.
pub record IsFirstFailed (at : ℕ) (value : List ℕ) (old new : MemoryDevice) : Type 0 where
  pub stopped : old.calls_left ≡ Some 0
  pub first : old.failed_pending ≡ false
  pub noted : new.failed_pending ≡ true
  pub pending : Pends at value old new
