-- Which faults end the work of a word on a journal.
use Rattle.std.specs.Prelude.{◌≤◌, ◌⊎◌, ⊤}
use Rattle.rec_codec.specs.declared.limits.Limits.{Limits}
use Rattle.chess_store.specs.Faults as store
use Rattle.chess_store.specs.declared.fault.StoreFault.TheVariants.{TooSmall, NotOurs, Damaged, Device}
use Rattle.sector_copy.specs.declared.fault.CopyFault.{CopyFault}
use Rattle.sector_copy.specs.declared.fault.CopyFault.TheVariants as copy
use Rattle.server_words.specs.declared.ends.Fault.{Fault}
use Rattle.server_words.specs.declared.ends.Fault.TheVariants as faults

-- what a fault of reading a journal is to the program
abbrev pub of_copy : CopyFault → Fault
of_copy copy.NotOurs = faults.Store NotOurs
of_copy copy.Damaged = faults.Store Damaged
of_copy copy.TooSmall = faults.Store TooSmall
of_copy copy.Device = faults.Store (Device 0)

-- of `format`
abbrev pub IsFormatFault : Fault → Type 0
IsFormatFault faults.File = ⊤
IsFormatFault faults.Write = ⊤
IsFormatFault faults.NoMemory = ⊤
IsFormatFault (faults.Store fault) = store.IsCreateFault fault
IsFormatFault _ = ⊥

-- of looking whether a device may be made a journal
abbrev pub IsBlankFault : Fault → Type 0
IsBlankFault (faults.Store fault) = store.IsCreateFault fault
IsBlankFault _ = ⊥

-- of reading a journal without its lock
abbrev pub IsReadingFault : Fault → Type 0
IsReadingFault faults.Changing = ⊤
IsReadingFault (faults.Store fault) = store.IsOpenFault fault
IsReadingFault _ = ⊥

-- of `copy`: it reads the one journal, and makes the other
abbrev pub IsCopyFault : Fault → Type 0
IsCopyFault faults.File = ⊤
IsCopyFault faults.Write = ⊤
IsCopyFault faults.Changing = ⊤
IsCopyFault faults.NoMemory = ⊤
IsCopyFault (faults.Store fault) = store.IsOpenFault fault ⊎ store.IsCreateFault fault
IsCopyFault _ = ⊥

-- of `show`
abbrev pub IsShowFault : Fault → Type 0
IsShowFault faults.File = ⊤
IsShowFault faults.Write = ⊤
IsShowFault faults.Changing = ⊤
IsShowFault faults.NoMemory = ⊤
IsShowFault (faults.Store fault) = store.IsOpenFault fault
IsShowFault _ = ⊥

-- of `widen`: it opens the journal, and then widens its table
abbrev pub IsWidenFault : Fault → Type 0
IsWidenFault faults.File = ⊤
IsWidenFault faults.Limits = ⊤
IsWidenFault faults.Write = ⊤
IsWidenFault (faults.Store fault) = store.IsOpenFault fault ⊎ store.IsWidenFault fault
IsWidenFault _ = ⊥

-- no limit is below the present one
pub record MayWiden (present wanted : Limits) : Type 0 where
  pub games : present.games ≤ wanted.games
  pub plies : present.plies ≤ wanted.plies
