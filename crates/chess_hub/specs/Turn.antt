-- Which lines stand next in turn.
use Rattle.std.specs.Prelude.{ℕ, ◌≡◌, zero, suc, List, [], ◌++◌, Option, map, option_map, slice_get, take}
use Rattle.std.specs.Option.{MatchOption}
use Rattle.std.specs.List.{filter_map, cons_option, AllZip}
use Rattle.text_lines.specs.Lines.{lines_of}
use Rattle.slab.specs.Slab.{Slab, entries}
use Rattle.chess_line.specs.declared.lines.Line.{Line}
use Rattle.chess_line.specs.Line.{IsLineOf}
use Rattle.chess_hub.specs.declared.sessions.Session.{Session}
use Rattle.chess_hub.specs.declared.sessions.Sessions.{Sessions}
use Rattle.chess_hub.specs.declared.turn.TurnLine.{TurnLine}

-- a session's number and its lines that wait, from the oldest on
pub record Waiting : Type 0 where
  pub sid : ℕ
  pub lines : List (List ℕ)

-- a line of a session
pub record SessionLine : Type 0 where
  pub sid : ℕ
  pub text : List ℕ

abbrev pub session_line : ℕ → List ℕ → SessionLine
session_line sid text = record { sid = sid; text = text }

-- the line of a session that has so many before it, if there is one
abbrev pub line_of : ℕ → ℕ → List (List ℕ) → List SessionLine
line_of sid place lines = cons_option (option_map (session_line sid) (slice_get lines place)) []

-- one line of each session that has so many before it
abbrev pub lines_at : ℕ → List Waiting → List SessionLine
lines_at place sessions = filter_map (λ w. option_map (session_line w.sid) (slice_get w.lines place)) sessions

-- the first line of each session, then the second of each, and so on, so many times
abbrev pub rounds : ℕ → List Waiting → List SessionLine
rounds zero sessions = []
rounds (suc n) sessions = rounds n sessions ++ lines_at n sessions

-- the lines that a turn takes from these sessions
abbrev pub turn_lines : ℕ → List Waiting → List SessionLine
turn_lines most sessions = take most (rounds most sessions)

-- the sessions by rising number, with their lines that wait
abbrev pub waiting : ℕ × Session → Waiting
waiting e = record { sid = e.0; lines = lines_of e.1.lines.bytes }

abbrev pub waiting_in : Slab Session → List Waiting
waiting_in slab = map waiting (entries slab)

abbrev pub waiting_of : Sessions → List Waiting
waiting_of s = waiting_in s.slab

-- what a text asks for, if it has a form of the protocol
abbrev pub IsReading : List ℕ → Option Line → Type 0
IsReading text read = MatchOption read ((line : Line) → ¬ IsLineOf text line) (IsLineOf text)

-- a line of a turn is one of a session, read
pub record IsTurnLine (line : SessionLine) (read : TurnLine) : Type 0 where
  pub sid : read.sid ≡ line.sid
  pub reads : IsReading line.text read.line

abbrev pub AreTurnLines : List SessionLine → List TurnLine → Type 0
AreTurnLines lines turn = AllZip IsTurnLine lines turn

-- Behind some lines of a turn more stand, as long as there was room.
abbrev pub MoreTurnLines : ℕ → List TurnLine → List TurnLine → List SessionLine → Type 0
MoreTurnLines most old new more =
    (lines : List SessionLine) → AreTurnLines (take most lines) old → AreTurnLines (take most (lines ++ more)) new
