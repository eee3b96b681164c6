-- What comes of lives on a device in memory that is made for them, and of the drill.
use Rattle.std.specs.Prelude.{ℕ, ◌≡◌, ◌⊎◌, ◌==◌, ◌+◌, ⊤, Bool, false, List, [], ◌∷◌, ◌++◌, length, count_by, Result, Ok}
use Rattle.std.specs.Prelude.{Err, IsOk, IfOk, IfErr, MatchResult}
use Rattle.chess_board.specs.Legal.{EachOf}
use Rattle.rec_codec.specs.declared.limits.Limits.{Limits}
use Rattle.rec_codec.specs.Limits.{need}
use Rattle.sector_dev.specs.declared.memory.MemoryDevice.{MemoryDevice}
use Rattle.sector_dev.specs.Device.{HasRisen}
use Rattle.sector_dev.specs.InMemory.{state_of, sector_count_of}
use Rattle.chess_store.specs.declared.fault.StoreFault.{StoreFault}
use Rattle.chess_store.specs.declared.fault.StoreFault.TheVariants.{Device, NoMemory, Worn}
use Rattle.chess_store.specs.Means.{AllMean}
use Rattle.chess_store.specs.declared.plan.Life.{Life}
use Rattle.chess_store.specs.declared.plan.Lived.{Lived}
use Rattle.chess_store.specs.declared.plan.Plan.{Plan}
use Rattle.chess_store.specs.declared.plan.Report.{Report}
use Rattle.chess_store.specs.declared.drilling.Tally.{Tally}
use Rattle.chess_store.specs.Lives.{IsReport}
use Rattle.chess_store.specs.Stops.{IsCutShort}
use Rattle.chess_store.specs.DrillLife.{IsDrillLife}

-- No life began: the device failed while it was made a store, and counted it.
abbrev pub IsUnbegun : StoreFault → ℕ → Type 0
IsUnbegun (Device pending) after = (pending ≡ 0) × HasRisen 0 after
IsUnbegun fault after = ⊥

-- which faults there are of lives on such a device
abbrev pub IsFaultInMemory : StoreFault → Type 0
IsFaultInMemory NoMemory = ⊤
IsFaultInMemory (Device pending) = ⊤
IsFaultInMemory Worn = ⊤
IsFaultInMemory fault = ⊥

-- What came of lives that begin with the empty table on a device which has not failed, and the device that is left of
-- it. Their report goes from no entry and no failure to the failures of this device, on which every image means the
-- table that is reported. Or a fault was returned: before them, or in their midst, and it left this device.
pub record IsLivedInMemory (limits : Limits) (lives : List Life) (lived : Lived MemoryDevice) : Type 0 where
  pub reported : IfOk lived.report (λ report. IsReport limits [] 0 lives report lived.dev.failures)
  pub images : IfOk lived.report (λ report. AllMean (state_of lived.dev) report.table)
  pub returned : IfErr lived.report (λ fault. IsUnbegun fault lived.dev.failures
      ⊎ IsCutShort limits [] 0 lives fault (state_of lived.dev) lived.dev.failures)
  pub fault : IfErr lived.report IsFaultInMemory
  pub sectors : sector_count_of lived.dev ≡ need limits

-- the limits of the drill's table
abbrev pub drill_limits : Limits
drill_limits = record { games = 4; plies = 60 }

-- a plan of the life of a case alone
pub record IsDrillPlan (case : ℕ) (plan : Plan) : Type 0 where
  pub life : Life
  pub alone : plan.lives.items ≡ life ∷ []
  pub is_life : IsDrillLife case life

-- Such a life was lived, alone, from the empty table.
pub record IsCase (case : ℕ) (lived : Lived MemoryDevice) : Type 0 where
  pub life : Life
  pub is_life : IsDrillLife case life
  pub is_lived : IsLivedInMemory drill_limits (life ∷ []) lived

-- each of them is a case, the first the one with this number
abbrev pub AreCases : ℕ → List (Lived MemoryDevice) → Type 0
AreCases case [] = ⊤
AreCases case (lived ∷ others) = IsCase case lived × AreCases (case + 1) others

-- it has a report, and no fault
abbrev pub IsReported : Lived MemoryDevice → Type 0
IsReported lived = IsOk lived.report

-- whether so many entries show at its end
abbrev pub shows_at_end : ℕ → Result Report StoreFault → Bool
shows_at_end entries (Ok report) = report.kept == entries
shows_at_end entries (Err fault) = false

abbrev pub shows : ℕ → Lived MemoryDevice → Bool
shows entries lived = shows_at_end entries lived.report

-- What the tally counts, where all have a report: cases, those at whose end the two entries of the opened game show and
-- no move, and those at whose end all five moves show.
pub record IsTallyOf (cases : List (Lived MemoryDevice)) (tally : Tally) : Type 0 where
  pub reported : EachOf IsReported cases
  pub count : tally.cases ≡ length cases
  pub none : tally.none ≡ count_by (shows 2) cases
  pub all : tally.all ≡ count_by (shows 7) cases

-- the fault of the first case that has one
pub record IsFirstFault (cases : List (Lived MemoryDevice)) (fault : StoreFault) : Type 0 where
  pub front : List (Lived MemoryDevice)
  pub case : Lived MemoryDevice
  pub others : List (Lived MemoryDevice)
  pub order : cases ≡ front ++ case ∷ others
  pub reported : EachOf IsReported front
  pub is : case.report ≡ Err fault

-- what is told of cases: their tally, or the first fault
abbrev pub IsTold : List (Lived MemoryDevice) → Result Tally StoreFault → Type 0
IsTold cases told = MatchResult told (IsTallyOf cases) (IsFirstFault cases)
