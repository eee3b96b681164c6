-- Which commands are reads, and for which of them memory may be refused.
use Rattle.chess_entry.specs.declared.commands.Act.{Act}
use Rattle.chess_entry.specs.declared.commands.Act.TheVariants as act
use Rattle.chess_entry.specs.declared.commands.Command.{Command}
use Rattle.chess_entry.specs.declared.verdicts.Verdict.TheVariants.{Read}
use Rattle.chess_entry.specs.State.{TableState}
use Rattle.chess_entry.specs.Verdict.{IsVerdict}

-- the command is a read on the table
abbrev pub IsRead : TableState → Command → Type 0
IsRead table command = IsVerdict table command Read

-- The answers to `pgn` and `list` have a body, which takes memory.
abbrev pub HasBody : Act → Type 0
HasBody (act.Pgn game) = Unit {0}
HasBody act.List = Unit {0}
HasBody _ = ⊥
