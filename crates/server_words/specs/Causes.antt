-- Which faults have the system's own error as their cause, and why the others came.
use Rattle.std.specs.Prelude.{ℕ, List, [], ⊤, codes}
use Rattle.chess_store.specs.declared.fault.StoreFault.{StoreFault}
use Rattle.chess_store.specs.declared.fault.StoreFault.TheVariants.{Device}
use Rattle.chess_store.specs.declared.fault.StoreFault.TheVariants as store
use Rattle.chess_hub.specs.declared.fault.HubFault.{HubFault}
use Rattle.chess_hub.specs.declared.fault.HubFault.TheVariants as hub
use Rattle.server_words.specs.declared.ends.Fault.{Fault}
use Rattle.server_words.specs.declared.ends.Fault.TheVariants as faults

-- of the store: a call of the device failed
abbrev pub IsOfDevice : StoreFault → Type 0
IsOfDevice (Device pending) = ⊤
IsOfDevice _ = ⊥

-- of the hub
abbrev pub IsOfHubsDevice : HubFault → Type 0
IsOfHubsDevice (hub.Store fault) = IsOfDevice fault
IsOfHubsDevice _ = ⊥

-- of a word: a call of the system failed
abbrev pub IsOfSystem : Fault → Type 0
IsOfSystem faults.File = ⊤
IsOfSystem faults.Read = ⊤
IsOfSystem faults.Write = ⊤
IsOfSystem faults.Socket = ⊤
IsOfSystem (faults.Store fault) = IsOfDevice fault
IsOfSystem (faults.Hub fault) = IsOfHubsDevice fault
IsOfSystem _ = ⊥

-- why a fault of the store came; nothing is said where the system has said it
abbrev pub reason_of_store : StoreFault → List ℕ
reason_of_store store.Exists =
    codes "it is not made a journal: one stands in it, or other bytes than zeros at its front"
reason_of_store store.TooSmall = codes "it is shorter than the limits of its journal need"
reason_of_store store.NotOurs = codes "no journal stands in it"
reason_of_store store.Damaged = codes "it begins as a journal, and what it holds is none"
reason_of_store (Device pending) = []
reason_of_store store.NoMemory = codes "memory was refused for what it holds"
reason_of_store store.Worn = codes "its count of commits, or of entries, is 2^64 - 1"
reason_of_store store.Failed = codes "an earlier call of its device failed"

-- why a fault of the hub came
abbrev pub reason_of_hub : HubFault → List ℕ
reason_of_hub hub.Busy = codes "a session sends lines faster than they are answered"
reason_of_hub hub.NoMemory = codes "memory was refused to a session"
reason_of_hub hub.LineTooLong = codes "a line has more than 255 bytes"
reason_of_hub (hub.Store fault) = reason_of_store fault

-- why a word's fault came
abbrev pub reason_of : Fault → List ℕ
reason_of faults.Limits = codes "a limit of its journal is above the one asked for"
reason_of faults.LineTooLong = codes "a line has more than 255 bytes"
reason_of faults.Changing = codes "it changed too fast to be read"
reason_of faults.NoMemory = codes "memory was refused for what it has to hold"
reason_of (faults.Store fault) = reason_of_store fault
reason_of (faults.Hub fault) = reason_of_hub fault
reason_of _ = []
