-- What a session's lines are answered, and which name it has.
use Rattle.std.specs.Prelude.{ℕ, ◌≡◌, ◌==◌, nat_lt, Bool, if◌then◌else◌, List, [], ◌∷◌, ◌++◌, Option, Some, None}
use Rattle.std.specs.Option.{MatchOption}
use Rattle.chess_entry.specs.declared.commands.Command.{Command}
use Rattle.chess_entry.specs.declared.refusals.Refusal.TheVariants.{BadLine, BadMoment}
use Rattle.chess_line.specs.declared.lines.Line.{Line}
use Rattle.chess_line.specs.declared.lines.Line.TheVariants.{Called, Act}
use Rattle.chess_answer.specs.Acts.{named_text}
use Rattle.chess_answer.specs.Refusals.{refusal_text}
use Rattle.chess_hub.specs.declared.sessions.Sessions.{Sessions}
use Rattle.chess_hub.specs.declared.turn.TurnLine.{TurnLine}
use Rattle.chess_hub.specs.Session.{Said, SessionState, session_at}

-- a moment that no command may have
abbrev pub is_late : ℕ → Bool
is_late at = nat_lt 4611686018427387903 at

-- ---- names

-- the name that a line gives its session, if it is accepted at this moment
abbrev pub given_name : ℕ → Option Line → Option (List ℕ)
given_name at (Some (Called name)) = if is_late at then None else Some name
given_name at (Some (Act act)) = None
given_name at None = None

abbrev pub renamed : Option (List ℕ) → Option (List ℕ) → Option (List ℕ)
renamed None old = old
renamed (Some name) old = Some name

-- the sessions' names after a line
abbrev pub names_after : ℕ → (ℕ → Option (List ℕ)) → TurnLine → ℕ → Option (List ℕ)
names_after at names t sid = if t.sid == sid then renamed (given_name at t.line) (names sid) else names sid

-- and after several lines
abbrev pub names_over : ℕ → (ℕ → Option (List ℕ)) → List TurnLine → ℕ → Option (List ℕ)
names_over at names [] = names
names_over at names (t ∷ lines) = names_over at (names_after at names t) lines

-- ---- commands

-- what a line asks of the table: an act by the session's name
abbrev pub asked : ℕ → Option (List ℕ) → Option Line → List Command
asked at who (Some (Act act)) = record { at = at; who = who; act = act } ∷ []
asked at who (Some (Called name)) = []
asked at who None = []

-- the commands of lines, each by the name that its session has after the lines before
abbrev pub commands_of : ℕ → (ℕ → Option (List ℕ)) → List TurnLine → List Command
commands_of at names [] = []
commands_of at names (t ∷ lines) = asked at (names t.sid) t.line ++ commands_of at (names_after at names t) lines

-- ---- answers

abbrev pub alone : List ℕ → Said
alone line = record { line = line; body = [] }

-- the answer to a line that asks nothing of the table
abbrev pub own_answer : ℕ → Option Line → Option (List ℕ)
own_answer at None = Some (refusal_text BadLine)
own_answer at (Some (Called name)) = Some (if is_late at then refusal_text BadMoment else named_text name)
own_answer at (Some (Act act)) = None

-- The answers to lines, in their order: to those that ask something of the table these, one after the other.
abbrev pub AreAnswers : ℕ → List TurnLine → List Said → List Said → Type 0
AreAnswers at [] replies answers = (replies ≡ []) × (answers ≡ [])
AreAnswers at (t ∷ lines) replies answers =
    MatchOption (own_answer at t.line)
    ((reply : Said) × (others : List Said) × (rest : List Said)
    × (replies ≡ reply ∷ others) × (answers ≡ reply ∷ rest) × AreAnswers at lines others rest)
    (λ line. (rest : List Said) × (answers ≡ alone line ∷ rest) × AreAnswers at lines replies rest)

-- the name that a session has, if it is open and has one
abbrev pub name_of : Option SessionState → Option (List ℕ)
name_of None = None
name_of (Some s) = s.name

abbrev pub name_at : Sessions → ℕ → Option (List ℕ)
name_at s sid = name_of (session_at s sid)
