-- What a crash may leave while a run of calls goes on.
use Rattle.std.specs.Prelude.{◌≡◌, ◌≢◌, ◌⊎◌, ◌≤◌, ◌↔◌, ℕ, List, Result}
use Rattle.sector_dev.specs.declared.device.Sector.{Sector}
use Rattle.sector_dev.specs.Image.{Sectors, sector_at, Write, IsWritten, Image, applied}
use Rattle.sector_dev.specs.Device.{State, Elapses, CountsFailure}

-- the device keeps the model and has nothing pending: a crash leaves what reads give
abbrev pub IsAtRest : State → Type 0
IsAtRest now = now.keeps_model × ((c : Sectors) → now.image c → c ≡ now.reads)

-- A crash at any moment since old leaves sectors that have P. None has come since.
pub record LeavesOnly (old new : State) (P : Sectors → Type 0) : Type 0 where
  pub unstopped : new.stops ≡ old.stops
  pub later : old.moment ≤ new.moment
  pub each : (c : Sectors) → new.image_since old.moment c → P c
  -- for a run that began earlier
  pub before : (t : ℕ) (c : Sectors) → t ≤ old.moment → new.image_since t c → old.image_since t c ⊎ P c

-- A run of calls, of which at most the last has failed: what goes on from call to call. During it a crash may leave
-- what has P, and nothing is forgotten of what it might have left before.
pub record IsRun {D T E : Type 0} (state : D → State) (sector_count failures : D → ℕ) (old new : D)
    (result : Result T E)
    (P : Sectors → Type 0) : Type 0 where
  pub model : (state new).keeps_model ↔ (state old).keeps_model
  pub size : sector_count new ≡ sector_count old
  pub time : (state old).keeps_model → Elapses (state old) (state new) P
  pub cause : CountsFailure result (failures old) (failures new)

-- an image from before these writes, after each of them was lost, kept, or made its sector unreadable
abbrev pub WithWrites : List Write → (Sectors → Type 0) → Sectors → Type 0
WithWrites writes old c = (d : Sectors) × old d × Image d writes c

-- these writes are read back, and a crash may lose each of them, keep it, or make its sector unreadable
pub record ArePending (writes : List Write) (old new : State) : Type 0 where
  pub reads : new.reads ≡ applied old.reads writes
  pub images : (c : Sectors) → new.image c ↔ WithWrites writes old.image c

-- these sectors agree in each but the one with that number
abbrev pub AgreeElsewhere : ℕ → Sectors → Sectors → Type 0
AgreeElsewhere at c d = (other : ℕ) → other ≢ at → sector_at c other ≡ sector_at d other

-- none of these writes is to the sector with that number
abbrev pub IsUntouched : List Write → ℕ → Type 0
IsUntouched writes at = (sector : Sector) → IsWritten writes at sector → ⊥
