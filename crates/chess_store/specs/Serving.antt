-- What one opened store makes of batches, on tables: what the functions inside say of it.
use Rattle.std.specs.Prelude.{ℕ, ◌≡◌, ◌⊎◌, ◌≤◌, ◌+◌, ◌^◌, ◌<◌, ◌-◌, min, List, [], ◌∷◌, ◌++◌, length, map, Option, Some}
use Rattle.std.specs.Prelude.{None, IfSome}
use Rattle.sector_dev.specs.Device.{State, HasRisen}
use Rattle.sector_dev.specs.Image.{Sectors}
use Rattle.chess_entry.specs.declared.commands.Command.{Command}
use Rattle.chess_entry.specs.State.{TableState}
use Rattle.chess_entry.specs.Table.{IsTable}
use Rattle.chess_store.specs.declared.fault.StoreFault.{StoreFault}
use Rattle.chess_store.specs.declared.fault.StoreFault.TheVariants.{Device, NoMemory, Worn}
use Rattle.chess_store.specs.Batch.{IsAnswered}
use Rattle.chess_store.specs.Faults.{CountsFault}
use Rattle.chess_store.specs.Means.{MeansEither}
use Rattle.chess_store.specs.declared.plan.LifeReport.{LifeReport}
use Rattle.chess_store.specs.declared.serving.Submitted.{Submitted}
use Rattle.chess_store.specs.Courses.{Batch, Course, entries_of, list_of, unsent_in}
use Rattle.chess_store.specs.Stops.{IsFirstWorn}

-- a batch is judged on a table, and after it the others are
pub record IsJudgedThen (Rest : TableState → Type 0) (before : TableState) (batch : Batch) : Type 0 where
  pub between : TableState
  pub first : IsAnswered before batch.commands batch.replies batch.entries between
  pub rest : Rest between

-- Batches are judged in their order, each on the table that the one before it left.
abbrev pub AreJudgedOn : TableState → List Batch → TableState → Type 0
AreJudgedOn before [] after = after ≡ before
AreJudgedOn before (batch ∷ batches) after =
    IsJudgedThen (λ between. AreJudgedOn between batches after) before batch

-- the course of these batches on a table: `kept` is the table after those that were answered, and `accepted` the one
-- after all that were judged
pub record IsCourseOn (before : TableState) (batches : List (List Command)) (course : Course)
    (left : List (List Command)) (kept accepted : TableState) : Type 0 where
  pub order : batches ≡ map (λ b. b.commands) course.answered ++ (map (λ b. b.commands) (list_of course.failed) ++ left)
  pub answered : AreJudgedOn before course.answered kept
  pub failed : AreJudgedOn kept (list_of course.failed) accepted
  pub some : IfSome course.failed (λ batch. 1 ≤ length batch.entries)

-- so many entries are those of the batch at which the device failed
abbrev pub ArePending : ℕ → Option Batch → Type 0
ArePending pending None = ⊥
ArePending pending (Some batch) = pending ≡ length batch.entries

-- Why the batches of a store came to an end: none is left; or the device failed at one; or one was refused.
abbrev pub EndsWith : Option StoreFault → Option Batch → List (List Command) → ℕ → ℕ → Type 0
EndsWith None failed left failures after = (failed ≡ None) × (left ≡ []) × (after ≡ failures)
EndsWith (Some (Device pending)) failed left failures after = ArePending pending failed × HasRisen failures after
EndsWith (Some NoMemory) failed left failures after = (failed ≡ None) × (after ≡ failures)
EndsWith (Some Worn) failed left failures after = (failed ≡ None) × (after ≡ failures)
EndsWith (Some fault) failed left failures after = ⊥

-- What came of batches that were submitted to a store that works: the table that it showed last, and what the images
-- are, where every one was kept.
pub record IsTallied (before : TableState) (batches : List (List Command)) (submitted : Submitted) (failures : ℕ)
    (WasKept : Type 0)
    (now : State) (after : ℕ) : Type 0 where
  pub course : Course
  pub left : List (List Command)
  pub kept : TableState
  pub accepted : TableState
  pub is_course : IsCourseOn before batches course left kept accepted
  pub ends : EndsWith submitted.fault course.failed left failures after
  pub shown : submitted.shown ≡ kept.entries
  pub unsent : submitted.unsent ≡ min (unsent_in course.answered) (2 ^ 64 - 1)
  pub worn : WasKept → submitted.fault ≡ Some Worn → IsFirstWorn now kept.entries left
  pub each : WasKept → (image : Sectors) → now.image image → MeansEither kept accepted image

-- the count with the entries that are pending still fits
abbrev pub HasRoomFor : ℕ → Option StoreFault → Type 0
HasRoomFor shown (Some (Device pending)) = shown + pending < 2 ^ 64
HasRoomFor shown _ = Unit {0}

abbrev pub HasRoomForPending : Submitted → Type 0
HasRoomForPending submitted = HasRoomFor submitted.shown submitted.fault

-- so many entries are pending
abbrev pub pending_of : Option StoreFault → ℕ
pending_of (Some (Device pending)) = pending
pending_of _ = 0

-- Why a store was not opened: the device failed, with nothing pending, or memory was refused.
abbrev pub EndsUnopened : Option StoreFault → ℕ → ℕ → Type 0
EndsUnopened (Some (Device pending)) failures after = (pending ≡ 0) × HasRisen failures after
EndsUnopened (Some NoMemory) failures after = after ≡ failures
EndsUnopened fault failures after = ⊥

-- no store was opened, so no batch was submitted
pub record WasRefused (course : Course) (report : LifeReport) (fault : Option StoreFault) (failures after : ℕ)
    : Type 0 where
  pub ends : EndsUnopened fault failures after
  pub answered : course.answered ≡ []
  pub failed : course.failed ≡ None
  pub opened : report.opened ≡ None
  pub acknowledged : report.acknowledged ≡ 0
  pub accepted : report.accepted ≡ 0
  pub unsent : report.unsent ≡ 0
  pub counted : report.failures ≡ after

-- a store was opened on this table, and the batches went their course
pub record WasOpened (before : TableState) (course : Course) (left : List (List Command)) (report : LifeReport)
    (fault : Option StoreFault) (failures after : ℕ) : Type 0 where
  pub is_table : IsTable before
  pub ends : EndsWith fault course.failed left failures after
  pub opened : report.opened ≡ Some before.entries
  pub acknowledged : report.acknowledged ≡ length (entries_of course.answered)
  pub accepted : report.accepted ≡ length (entries_of course.answered) + length (entries_of (list_of course.failed))
  pub unsent : report.unsent ≡ min (unsent_in course.answered) (2 ^ 64 - 1)
  pub counted : report.failures ≡ after

-- What came of a device on which every image means this table.
pub record IsServed (before : TableState) (batches : List (List Command)) (failures : ℕ) (report : LifeReport)
    (fault : Option StoreFault) (now : State) (after : ℕ) : Type 0 where
  pub course : Course
  pub left : List (List Command)
  pub kept : TableState
  pub accepted : TableState
  pub is_course : IsCourseOn before batches course left kept accepted
  pub how : WasRefused course report fault failures after ⊎ WasOpened before course left report fault failures after
  pub worn : fault ≡ Some Worn → IsFirstWorn now kept.entries left
  pub each : (image : Sectors) → now.image image → MeansEither kept accepted image

-- the count of failures rises where the device is at fault, and stays otherwise
abbrev pub CountsEnd : Option StoreFault → ℕ → ℕ → Type 0
CountsEnd None old new = new ≡ old
CountsEnd (Some fault) old new = CountsFault fault old new

-- a fault that is returned: the device's ends a life whose calls are limited, and no more
abbrev pub returned : Option ℕ → Option StoreFault → Option StoreFault
returned (Some calls) (Some (Device pending)) = None
returned calls fault = fault

-- What the last opening shows of a device on which every image means this table.
pub record IsShown (before : TableState) (failures : ℕ) (table : TableState) (kept : ℕ) (after : ℕ) : Type 0 where
  pub same : table ≡ before
  pub count : kept ≡ before.entries
  pub is_table : IsTable table
  pub unfailed : after ≡ failures
