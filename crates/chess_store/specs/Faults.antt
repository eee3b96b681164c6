-- Why a store refuses a call.
use Rattle.std.specs.Prelude.{ℕ, ◌≡◌, ◌≤◌, List}
use Rattle.sector_dev.specs.Device.{HasRisen}
use Rattle.sector_journal.specs.declared.fault.JournalFault.{JournalFault}
use Rattle.sector_journal.specs.declared.fault.JournalFault.TheVariants as journal
use Rattle.chess_table.specs.declared.restoring.TableFault.{TableFault}
use Rattle.chess_table.specs.declared.restoring.TableFault.TheVariants as table
use Rattle.chess_entry.specs.declared.commands.Command.{Command}
use Rattle.chess_entry.specs.State.{TableState}
use Rattle.chess_store.specs.declared.fault.StoreFault.{StoreFault}
use Rattle.chess_store.specs.declared.fault.StoreFault.TheVariants.{Exists, TooSmall, NotOurs, Damaged, Device}
use Rattle.chess_store.specs.declared.fault.StoreFault.TheVariants.{NoMemory, Worn, Failed}
use Rattle.chess_store.specs.Batch.{AreEntered}

-- what a fault of the journal is where nothing is pending
abbrev pub of_journal : JournalFault → StoreFault
of_journal journal.Exists = Exists
of_journal journal.TooSmall = TooSmall
of_journal journal.NotOurs = NotOurs
of_journal journal.Damaged = Damaged
of_journal journal.DeviceFault = Device 0
of_journal journal.NoMemory = NoMemory
of_journal journal.Worn = Worn
of_journal journal.Failed = Failed

-- what a fault of the records is
abbrev pub of_table : TableFault → StoreFault
of_table table.Damaged = Damaged
of_table table.NoMemory = NoMemory

-- of `submit`
abbrev pub IsSubmitFault : StoreFault → Type 0
IsSubmitFault (Device pending) = Unit {0}
IsSubmitFault NoMemory = Unit {0}
IsSubmitFault Worn = Unit {0}
IsSubmitFault Failed = Unit {0}
IsSubmitFault fault = ⊥

-- of `create`
abbrev pub IsCreateFault : StoreFault → Type 0
IsCreateFault Exists = Unit {0}
IsCreateFault TooSmall = Unit {0}
IsCreateFault (Device pending) = pending ≡ 0
IsCreateFault fault = ⊥

-- of `open`
abbrev pub IsOpenFault : StoreFault → Type 0
IsOpenFault NotOurs = Unit {0}
IsOpenFault Damaged = Unit {0}
IsOpenFault TooSmall = Unit {0}
IsOpenFault (Device pending) = pending ≡ 0
IsOpenFault NoMemory = Unit {0}
IsOpenFault fault = ⊥

-- of `widen`
abbrev pub IsWidenFault : StoreFault → Type 0
IsWidenFault Failed = Unit {0}
IsWidenFault TooSmall = Unit {0}
IsWidenFault Worn = Unit {0}
IsWidenFault NoMemory = Unit {0}
IsWidenFault (Device pending) = pending ≡ 0
IsWidenFault fault = ⊥

-- the device failed
abbrev pub IsDevice : StoreFault → Type 0
IsDevice (Device pending) = Unit {0}
IsDevice fault = ⊥

-- the fault is not the image's: the device failed, or memory was refused
abbrev pub IsOfTheCall : StoreFault → Type 0
IsOfTheCall (Device pending) = Unit {0}
IsOfTheCall NoMemory = Unit {0}
IsOfTheCall fault = ⊥

-- that holds unless the device is at fault
abbrev pub UnlessDevice : StoreFault → Type 0 → Type 0
UnlessDevice (Device pending) P = Unit {0}
UnlessDevice fault P = P

-- the count of failures rises where the device is at fault, and stays otherwise
abbrev pub CountsFault : StoreFault → ℕ → ℕ → Type 0
CountsFault (Device pending) old new = HasRisen old new × (old ≤ new)
CountsFault fault old new = new ≡ old

-- What is pending after a fault: the entries of the batch, which the table has, and which may last or not.
abbrev pub MayLast : StoreFault → TableState → List Command → TableState → Type 0
MayLast (Device pending) before commands after = AreEntered before commands pending after
MayLast fault before commands after = after ≡ before
