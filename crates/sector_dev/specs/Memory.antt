-- A device in memory: the values that were stable when its record began, and the calls since.
use Rattle.std.specs.Prelude.{◌≡◌, ◌≤◌, ℕ, List, [], ◌∷◌, ◌++◌, length, take, drop, ⊤, refl}
use Rattle.sector_dev.specs.declared.memory.Call.{Call}
use Rattle.sector_dev.specs.declared.memory.Call.TheVariants.{Written, Synced}
use Rattle.sector_dev.specs.Image.{Sectors, Write, applied, put, of, two_sectors}

-- stable values, and pending writes in the order in which they were made
pub record Disk : Type 0 where
  pub stable : Sectors
  pub pending : List Write

-- what reads give
abbrev pub shown : Disk → Sectors
shown d = applied d.stable d.pending

-- after one more call
abbrev pub step : Disk → Call → Disk
step d (Written at value) =
    record { stable = d.stable; pending = d.pending ++ record { sector = at; value = value } ∷ [] }
step d Synced = record { stable = applied d.stable d.pending; pending = [] }

-- after these calls
abbrev pub disk_after : Disk → List Call → Disk
disk_after d [] = d
disk_after d (c ∷ cs) = disk_after (step d c) cs

-- nothing pending
abbrev pub at_rest : Sectors → Disk
at_rest stable = record { stable = stable; pending = [] }

-- two writes, a sync and a write: the two are stable and the last one pending
after_four_calls :
    disk_after (at_rest two_sectors) (Written 0 (11 ∷ []) ∷ Written 1 (21 ∷ []) ∷ Synced ∷ Written 0 (12 ∷ []) ∷ [])
    ≡ record { stable = of 11 ∷ of 21 ∷ []; pending = put 0 12 ∷ [] }
after_four_calls = refl

-- the writes among these calls
abbrev pub writes_of : List Call → List Write
writes_of [] = []
writes_of (Written at value ∷ cs) = record { sector = at; value = value } ∷ writes_of cs
writes_of (Synced ∷ cs) = writes_of cs

-- no sync is among these calls
abbrev pub IsUnsynced : List Call → Type 0
IsUnsynced [] = ⊤
IsUnsynced (Written at value ∷ cs) = IsUnsynced cs
IsUnsynced (Synced ∷ cs) = ⊥

-- the disk of calls of which those before this place are settled and the others pending
abbrev pub settled_disk : Sectors → List Call → ℕ → Disk
settled_disk stable calls place = record {
  stable = applied stable (writes_of (take place calls));
  pending = writes_of (drop place calls);
}

-- The calls before this place are settled by a sync, and those from it on are pending.
pub record IsSettledAt (calls : List Call) (place : ℕ) : Type 0 where
  pub within : place ≤ length calls
  pub unsynced : IsUnsynced (drop place calls)
  pub disk : (stable : Sectors) → disk_after (at_rest stable) calls ≡ settled_disk stable calls place
