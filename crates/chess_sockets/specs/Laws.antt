-- Which lines are answered by several lines.
use Rattle.std.specs.Prelude.{ℕ, ◌≡◌, false, List, [], Option}
use Rattle.std.specs.Io.BufRead.{strip_last}
use Rattle.chess_entry.specs.State.{TableState}
use Rattle.chess_line.specs.declared.lines.Line.{Line}
use Rattle.chess_hub.specs.Session.{Said}
use Rattle.chess_hub.specs.Turn.{IsReading}
use Rattle.chess_hub.specs.Sessions.{IsLineAnswered}
use Rattle.chess_sockets.specs.Portions.{is_dear}

-- The answer to a line that asks for little, as that stands before its line feed, is one line: it has no body, whoever
-- asks, at whatever moment, of whatever table.
abbrev pub LawOfShortAnswers : Type 0
LawOfShortAnswers =
    (line : List ℕ) (read : Option Line) (table after : TableState) (name : Option (List ℕ)) (at : ℕ) (answer : Said)
    → is_dear line ≡ false → IsReading (strip_last 13 line) read → IsLineAnswered table name at read answer after
    → answer.body ≡ []
