-- How a run of the program ends.
use Rattle.std.specs.Prelude.{ℕ, List, Result, Ok, Err, codes}
use Rattle.chess_store.specs.declared.fault.StoreFault.{StoreFault}
use Rattle.chess_store.specs.declared.fault.StoreFault.TheVariants.{Exists, TooSmall, NotOurs, Damaged, Device}
use Rattle.chess_store.specs.declared.fault.StoreFault.TheVariants.{NoMemory, Worn, Failed}
use Rattle.chess_hub.specs.declared.fault.HubFault.{HubFault}
use Rattle.chess_hub.specs.declared.fault.HubFault.TheVariants as hub
use Rattle.server_words.specs.declared.board_loop.BoardFault.{BoardFault}
use Rattle.server_words.specs.declared.board_loop.BoardFault.TheVariants as board
use Rattle.server_words.specs.declared.ends.End.{End}
use Rattle.server_words.specs.declared.ends.End.TheVariants as ends
use Rattle.server_words.specs.declared.ends.Fault.{Fault}
use Rattle.server_words.specs.declared.ends.Fault.TheVariants.{File, Read, Write, Limits, Socket, LineTooLong, Changing}
use Rattle.server_words.specs.declared.ends.Fault.TheVariants.{Store, Hub}
use Rattle.server_words.specs.declared.ends.Fault.TheVariants as faults

-- the exit status: 1 after a fault, 2 for words that the program does not know
abbrev pub status_of : End → ℕ
status_of ends.Done = 0
status_of (ends.Fault fault) = 1
status_of ends.Usage = 2

-- the name that is told of a fault of the store
abbrev pub name_of_store : StoreFault → List ℕ
name_of_store Exists = codes "Exists"
name_of_store TooSmall = codes "TooSmall"
name_of_store NotOurs = codes "NotOurs"
name_of_store Damaged = codes "Damaged"
name_of_store (Device pending) = codes "Device"
name_of_store NoMemory = codes "NoMemory"
name_of_store Worn = codes "Worn"
name_of_store Failed = codes "Failed"

-- the name that is told of a fault of the hub
abbrev pub name_of_hub : HubFault → List ℕ
name_of_hub hub.Busy = codes "Busy"
name_of_hub hub.NoMemory = codes "NoMemory"
name_of_hub hub.LineTooLong = codes "LineTooLong"
name_of_hub (hub.Store fault) = name_of_store fault

-- the name that is told of a fault: the innermost
abbrev pub name_of : Fault → List ℕ
name_of File = codes "File"
name_of Read = codes "Read"
name_of Write = codes "Write"
name_of Limits = codes "Limits"
name_of Socket = codes "Socket"
name_of LineTooLong = codes "LineTooLong"
name_of Changing = codes "Changing"
name_of faults.NoMemory = codes "NoMemory"
name_of (Store fault) = name_of_store fault
name_of (Hub fault) = name_of_hub fault

-- what a fault of `board` is to the program
abbrev pub of_board : BoardFault → Fault
of_board board.Read = Read
of_board board.Write = Write

-- the end that the result of a word's work is
abbrev pub end_of : Result (Unit {0}) Fault → End
end_of (Ok done) = ends.Done
end_of (Err fault) = ends.Fault fault
