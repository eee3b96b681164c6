-- What is left where a fault is returned in the midst of the lives.
use Rattle.std.specs.Prelude.{ℕ, ◌≡◌, List, [], ◌∷◌, ◌++◌, length, Option, Some, None}
use Rattle.rec_codec.specs.declared.limits.Limits.{Limits}
use Rattle.rec_codec.specs.declared.record.Entry.{Entry}
use Rattle.sector_dev.specs.Image.{Sectors}
use Rattle.sector_dev.specs.Device.{State, HasRisen}
use Rattle.sector_journal.specs.Stands.{Content, Shows}
use Rattle.chess_entry.specs.declared.commands.Command.{Command}
use Rattle.chess_entry.specs.Games.{table_of}
use Rattle.chess_entry.specs.Lawful.{IsLawful}
use Rattle.chess_store.specs.declared.fault.StoreFault.{StoreFault}
use Rattle.chess_store.specs.declared.fault.StoreFault.TheVariants.{NotOurs, Damaged, TooSmall, Device, NoMemory, Worn}
use Rattle.chess_store.specs.Batch.{IsWornOut, change_count}
use Rattle.chess_store.specs.Means.{Means}
use Rattle.chess_store.specs.declared.plan.Life.{Life}
use Rattle.chess_store.specs.declared.plan.LifeReport.{LifeReport}
use Rattle.chess_store.specs.Courses.{Batch, Course, IsCourse, IsLeft, acknowledged}
use Rattle.chess_store.specs.Lives.{AreLives, batches_of}

-- the batches of the life in which the fault came; the last opening has none
abbrev pub first_batches : List Life → List (List Command)
first_batches [] = []
first_batches (life ∷ lives) = batches_of life

-- its calls were not limited
abbrev pub IsFirstUnarmed : List Life → Type 0
IsFirstUnarmed [] = Unit {0}
IsFirstUnarmed (life ∷ lives) = life.calls ≡ None

-- The device failed at the opening, before any batch, and nothing is pending; or at a batch, and its entries are.
abbrev pub IsPendingOf : ℕ → List Batch → Option Batch → Type 0
IsPendingOf pending answered None = (pending ≡ 0) × (answered ≡ [])
IsPendingOf pending answered (Some batch) = pending ≡ length batch.entries

-- the header in force of this image has this number
pub record IsNumbered (number : ℕ) (image : Sectors) : Type 0 where
  pub content : Content
  pub shows : Shows image content
  pub is : content.header.seq ≡ number

-- Behind so many entries the changes that these commands ask for would need a header's number, or a count of entries,
-- past 64 bits.
pub record IsWornBefore (now : State) (entries : ℕ) (commands : List Command) : Type 0 where
  pub number : ℕ
  pub each : (image : Sectors) → now.image image → IsNumbered number image
  pub worn : IsWornOut number entries (change_count commands)

-- so would those of the first of the batches that are left
abbrev pub IsFirstWorn : State → ℕ → List (List Command) → Type 0
IsFirstWorn now entries [] = ⊥
IsFirstWorn now entries (commands ∷ left) = IsWornBefore now entries commands

-- Why a life is cut short. The device failed, where its calls were not limited, and counted it. Or memory was refused,
-- or the next batch is worn out: then the device has not failed, and every batch that was submitted is answered.
abbrev pub IsReturned : StoreFault → (IsUnarmed IsWorn : Type 0) → Course → ℕ → ℕ → Type 0
IsReturned (Device pending) IsUnarmed IsWorn course failures after =
    IsUnarmed × IsPendingOf pending course.answered course.failed × HasRisen failures after
IsReturned NoMemory IsUnarmed IsWorn course failures after = (course.failed ≡ None) × (after ≡ failures)
IsReturned Worn IsUnarmed IsWorn course failures after = (course.failed ≡ None) × IsWorn × (after ≡ failures)
IsReturned fault IsUnarmed IsWorn course failures after = ⊥

-- The image means the table of a lawful list that a stop would leave of this course.
pub record MeansLeft (limits : Limits) (k : List Entry) (course : Course) (image : Sectors) : Type 0 where
  pub next : List Entry
  pub is_left : IsLeft k course next
  pub lawful : IsLawful limits next
  pub means : Means image (table_of limits next)

-- A fault was returned in the first of these lives, or in the last opening, where none is left. Every image means the
-- table of a list that a stop would have left there.
pub record IsStopped (limits : Limits) (k : List Entry) (failures : ℕ) (lives : List Life) (fault : StoreFault)
    (now : State) (after : ℕ) : Type 0 where
  pub course : Course
  pub left : List (List Command)
  pub is_course : IsCourse limits k (first_batches lives) course left
  pub returned : IsReturned fault (IsFirstUnarmed lives) (IsFirstWorn now (length (acknowledged k course)) left) course
      failures after
  pub each : (image : Sectors) → now.image image → MeansLeft limits k course image

-- The faults of `lives`, on any device: those of an opening, and those of a batch that is submitted to a store that
-- works.
abbrev pub IsLivesFault : StoreFault → Type 0
IsLivesFault NotOurs = Unit {0}
IsLivesFault Damaged = Unit {0}
IsLivesFault TooSmall = Unit {0}
IsLivesFault (Device pending) = Unit {0}
IsLivesFault NoMemory = Unit {0}
IsLivesFault Worn = Unit {0}
IsLivesFault fault = ⊥

-- Some lives are over, and then a fault was returned.
pub record IsCutShort (limits : Limits) (k : List Entry) (failures : ℕ) (lives : List Life) (fault : StoreFault)
    (now : State) (after : ℕ) : Type 0 where
  pub over : List Life
  pub others : List Life
  pub order : lives ≡ over ++ others
  pub reports : List LifeReport
  pub last : List Entry
  pub count : ℕ
  pub are_lives : AreLives limits k failures over reports last count
  pub stopped : IsStopped limits last count others fault now after
