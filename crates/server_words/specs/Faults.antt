-- Which faults end the work of a word.
use Rattle.std.specs.Prelude.{⊤}
use Rattle.chess_store.specs.Faults as store
use Rattle.server_words.specs.declared.ends.Fault.{Fault}
use Rattle.server_words.specs.declared.ends.Fault.TheVariants as faults

-- of `board`
abbrev pub IsBoardFault : Fault → Type 0
IsBoardFault faults.Read = ⊤
IsBoardFault faults.Write = ⊤
IsBoardFault _ = ⊥

-- of opening a journal
abbrev pub IsOpenFault : Fault → Type 0
IsOpenFault faults.File = ⊤
IsOpenFault (faults.Store fault) = store.IsOpenFault fault
IsOpenFault _ = ⊥
