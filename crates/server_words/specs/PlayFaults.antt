-- Which faults end the words that play games.
use Rattle.std.specs.Prelude.{⊤}
use Rattle.chess_store.specs.Faults as store
use Rattle.chess_sockets.specs.Turns as sockets
use Rattle.chess_store.specs.Drill as drill
use Rattle.chess_hub.specs.declared.running.RunFault.{RunFault}
use Rattle.chess_hub.specs.declared.running.RunFault.TheVariants as run
use Rattle.server_words.specs.declared.ends.Fault.{Fault}
use Rattle.server_words.specs.declared.ends.Fault.TheVariants as faults

-- what a fault of `run` is to the program
abbrev pub of_run : RunFault → Fault
of_run run.Read = faults.Read
of_run run.Write = faults.Write
of_run run.LineTooLong = faults.LineTooLong
of_run (run.Hub fault) = faults.Hub fault

-- of `run`
abbrev pub IsRunFault : Fault → Type 0
IsRunFault faults.File = ⊤
IsRunFault (faults.Store fault) = store.IsOpenFault fault
IsRunFault faults.Read = ⊤
IsRunFault faults.Write = ⊤
IsRunFault faults.LineTooLong = ⊤
IsRunFault (faults.Hub fault) = ⊤
IsRunFault _ = ⊥

-- of `serve`
abbrev pub IsServeFault : Fault → Type 0
IsServeFault faults.File = ⊤
IsServeFault (faults.Store fault) = store.IsOpenFault fault
IsServeFault faults.Socket = ⊤
IsServeFault faults.Write = ⊤
IsServeFault (faults.Hub fault) = sockets.EndsServing fault
IsServeFault _ = ⊥

-- of `drill`
abbrev pub IsDrillFault : Fault → Type 0
IsDrillFault faults.Write = ⊤
IsDrillFault (faults.Store fault) = drill.IsFaultInMemory fault
IsDrillFault _ = ⊥
