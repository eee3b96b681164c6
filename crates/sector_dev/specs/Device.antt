-- What a device shows, and what its calls do to that and to what a crash may leave.
use Rattle.std.specs.Prelude.{◌≡◌, ◌⊎◌, ◌≤◌, ◌+◌, ◌-◌, ◌^◌, ◌↔◌, ℕ, List, length, slice_set, replicate, min, Option}
use Rattle.std.specs.Prelude.{Some, None, Result, IsErr, MatchResult, refl}
use Rattle.sector_dev.specs.declared.device.Sector.{Sector}
use Rattle.sector_dev.specs.declared.device.Sector.TheVariants.{Bytes, Unreadable}
use Rattle.sector_dev.specs.declared.device.Got.{Got}
use Rattle.sector_dev.specs.declared.device.Got.TheVariants.{Whole, Unreadable as NoBytes}
use Rattle.sector_dev.specs.Image.{Sectors, Write, Image}
use Rattle.sector_dev.specs.Whole.{AreWhole}

-- What a caller can know of a device.
pub record State : Type 1 where
  -- whether the device keeps the disk model
  pub keeps_model : Type 0
  -- what reads give
  pub reads : Sectors
  -- what a crash at this moment may leave
  pub image : Sectors → Type 0
  -- how often it has stopped by a crash, which no call of `Device` changes, nor `arm`
  pub stops : ℕ
  -- the moment, as a number that no call of `Device` makes smaller, nor `arm`; a crash begins it anew
  pub moment : ℕ
  -- what a crash at some moment from that one on might have left, before, within or after a call
  pub image_since : ℕ → Sectors → Type 0

-- What is told of a device: its state, how many sectors it has, and how often it has failed.
pub record Measures (D : Type 0) : Type 1 where
  pub state : D → State
  pub sector_count : D → ℕ
  pub failures : D → ℕ

abbrev pub measures : {D : Type 0} → (D → State) → (D → ℕ) → (D → ℕ) → Measures D
measures state sector_count failures =
    record { state = state; sector_count = sector_count; failures = failures }

-- What holds of the state of each device that keeps the model.
pub record IsCoherent (sector_count : ℕ) (now : State) : Type 0 where
  -- this moment is one of those since an earlier one
  pub counts_now : (t : ℕ) (c : Sectors) → now.keeps_model → t ≤ now.moment → now.image c → now.image_since t c
  -- since this moment there is no other
  pub only_now : (c : Sectors) → now.keeps_model → now.image_since now.moment c → now.image c
  -- the images are those of some stable values and some pending writes
  pub some_disk : now.keeps_model
      → (stable : Sectors) × (pending : List Write)
      × ((c : Sectors) → now.image c ↔ Image stable pending c)
  -- what reads give is one of them
  pub reads_are_image : now.keeps_model → now.image now.reads
  -- none has more sectors, or fewer
  pub image_size : (c : Sectors) → now.keeps_model → now.image c → length c ≡ sector_count
  -- and in each a readable sector has 512 bytes
  pub image_whole : (c : Sectors) → now.keeps_model → now.image c → AreWhole c

-- what a read answers of this sector, and what it gives: zeros where it is unreadable
abbrev pub IsRead : Sector → Got → List ℕ → Type 0
IsRead sector Whole into = sector ≡ Bytes into
IsRead sector NoBytes into = (sector ≡ Unreadable) × (into ≡ replicate 512 0)

-- these sectors, or with this one written, or with it unreadable
abbrev pub OldOrChanged : Sectors → ℕ → List ℕ → Sectors → Type 0
OldOrChanged old at value c = (c ≡ old) ⊎ ((c ≡ slice_set old at (Bytes value)) ⊎ (c ≡ slice_set old at Unreadable))

-- an image from before a write, or with its sector written or unreadable
abbrev pub WithOrWithout : ℕ → List ℕ → (Sectors → Type 0) → Sectors → Type 0
WithOrWithout at value old c = (d : Sectors) × old d × OldOrChanged d at value c

-- reads give what they gave, and a crash may leave what it might have left
pub record IsUnchanged (old new : State) : Type 0 where
  pub reads : new.reads ≡ old.reads
  pub images : (c : Sectors) → new.image c ↔ old.image c

-- the write is read back, and a crash may keep it, lose it, or make its sector unreadable
pub record IsPending (at : ℕ) (value : List ℕ) (old new : State) : Type 0 where
  pub reads : new.reads ≡ slice_set old.reads at (Bytes value)
  pub images : (c : Sectors) → new.image c ↔ WithOrWithout at value old.image c

-- The write failed: it may be read back or not, and it may be pending or not. The other sectors are as before.
pub record MayBePending (at : ℕ) (value : List ℕ) (old new : State) : Type 0 where
  pub reads : (new.reads ≡ old.reads) ⊎ (new.reads ≡ slice_set old.reads at (Bytes value))
  pub images : ((c : Sectors) → new.image c ↔ old.image c)
      ⊎ ((c : Sectors) → new.image c ↔ WithOrWithout at value old.image c)

-- these sectors are stable, with nothing pending
pub record IsStable (sectors : Sectors) (now : State) : Type 0 where
  pub reads : now.reads ≡ sectors
  pub images : (c : Sectors) → now.image c ↔ (c ≡ sectors)

-- Reads give what they gave, and a crash leaves nothing that it might not have left before: some of the pending
-- writes may have become stable.
pub record MayBeStable (old new : State) : Type 0 where
  pub reads : new.reads ≡ old.reads
  pub images : (c : Sectors) → new.image c → old.image c

-- Time goes on, without a crash: a crash since t might have left what it might have left before, all of it, or what it
-- might leave during the call.
pub record Elapses (old new : State) (during : Sectors → Type 0) : Type 0 where
  pub unstopped : new.stops ≡ old.stops
  pub later : old.moment ≤ new.moment
  pub nothing_else : (t : ℕ) (c : Sectors) → t ≤ old.moment
      → new.image_since t c → old.image_since t c ⊎ during c
  pub keeps : (t : ℕ) (c : Sectors) → t ≤ old.moment → old.image_since t c → new.image_since t c

-- the count rose, or stays where 64 bits hold no more
abbrev pub HasRisen : ℕ → ℕ → Type 0
HasRisen old new = min (old + 1) (2 ^ 64 - 1) ≤ new

-- it rises by one at least, and from the greatest it can't
risen_once : min (3 + 1) (2 ^ 64 - 1) ≡ 4
risen_once = refl

risen_no_more : min ((2 ^ 64 - 1) + 1) (2 ^ 64 - 1) ≡ 2 ^ 64 - 1
risen_no_more = refl

-- a crash is one stop more, where 64 bits hold it
abbrev pub HasStopped : State → State → Type 0
HasStopped old new = new.stops ≡ min (old.stops + 1) (2 ^ 64 - 1)

-- the count of failures stays at `Ok` and rises at `Err`
abbrev pub CountsFailure : {T E : Type 0} → Result T E → ℕ → ℕ → Type 0
CountsFailure result old new = MatchResult result (λ _. new ≡ old) (λ _. HasRisen old new × (old ≤ new))

-- how many calls are left after one more, where that is limited
abbrev pub one_less : Option ℕ → Option ℕ
one_less None = None
one_less (Some n) = Some (n - 1)

last_call : one_less (Some 1) ≡ Some 0
last_call = refl

none_left : one_less (Some 0) ≡ Some 0
none_left = refl

-- A call that succeeds takes one of those that are left, and one that fails may. Where none is left it fails.
pub record TakesOne {T E : Type 0} (result : Result T E) (old new : Option ℕ) : Type 0 where
  pub left : MatchResult result (λ _. new ≡ one_less old) (λ _. (new ≡ one_less old) ⊎ (new ≡ old))
  pub stopped : old ≡ Some 0 → IsErr result
