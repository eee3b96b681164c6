-- A line of the lobby's at the server, and the name under which it is entered there.
use Rattle.std.specs.Prelude.{ℕ, ◌≡◌, Bool, true, false, List, [], ◌∷◌, ◌++◌, Option, None, Some, if◌then◌else◌}
use Rattle.std.specs.Option.{MatchOption}
use Rattle.chess_entry.specs.declared.commands.Act.{Act as Asked}
use Rattle.chess_line.specs.declared.lines.Line.{Line}
use Rattle.chess_line.specs.declared.lines.Line.TheVariants.{Act}
use Rattle.chess_hub.specs.Session.{Said}
use Rattle.chess_hub.specs.Turn.{IsReading}
use Rattle.chess_hub.specs.Answers.{given_name, renamed, own_answer, alone, asked}
use Rattle.lobby_words.specs.declared.players.Player.{Player}
use Rattle.lobby_words.specs.Words.{as_name, pair_line}
use Rattle.lobby_words.specs.Answers.{ended, answer}
use Rattle.lobby_desk.specs.Events.{DeskInput, Heard, ServerTurned}
use Rattle.lobby_table.specs.Owed.{ForAct, Owed, Asker, Pairer}
use Rattle.lobby_desk.specs.Tellings.{Known, is_counted}
use Rattle.lobby_desk.specs.History.{Step, Sent, known_in, unanswered_in, IsLineOf, IsNameOf}

-- ---- at the server

-- A line that a session took: its text, what it asks for, the moment, and the answer to it.
pub record Taken : Type 0 where
  pub text : List ℕ
  pub read : Option Line
  pub at : ℕ
  pub said : Said

-- It was read as the protocol has it; and where it asks nothing of the table, the answer is the session's own.
pub record IsTaken (t : Taken) : Type 0 where
  pub reads : IsReading t.text t.read
  pub own : MatchOption (own_answer t.at t.read) (Unit {0}) (λ line. t.said ≡ alone line)

-- the session's name after lines: that of the last `name` line that it accepted
abbrev pub name_after : Option (List ℕ) → List Taken → Option (List ℕ)
name_after name [] = name
name_after name (t ∷ taken) = name_after (renamed (given_name t.at t.read) name) taken

-- ---- at the lobby

-- a line that the server answered, and the whole answer
pub record Told : Type 0 where
  pub line : List ℕ
  pub answer : List ℕ

abbrev pub told_first : List Sent → List ℕ → List Told
told_first [] now = []
told_first (s ∷ sent) now = record { line = s.line; answer = now } ∷ []

abbrev pub told_now : DeskInput → Known → List Sent → List Told → List Told
told_now (Heard line) k sent told = if is_counted k line then told ++ told_first sent (answer k.begun line) else told
told_now (ServerTurned is_here) k sent told = []
told_now _ k sent told = told

-- the lines that the server has answered on the connection that stands, with answers that count, the oldest first
abbrev pub told_in : List Player → List Step → List Told
told_in players [] = []
told_in players (s ∷ past) =
    told_now s.event (known_in players past) (unanswered_in players past) (told_in players past)

-- ---- together

-- the answer as it goes over the line
abbrev pub text_of : Said → List ℕ
text_of said = ended said.line ++ said.body

-- The session took just these lines, in this order, and gave these answers.
abbrev pub AreTaken : List Told → List Taken → Type 0
AreTaken [] [] = Unit {0}
AreTaken [] (t ∷ taken) = ⊥
AreTaken (a ∷ told) [] = ⊥
AreTaken (a ∷ told) (t ∷ taken) = (t.text ≡ a.line) × (text_of t.said ≡ a.answer) × IsTaken t × AreTaken told taken

-- The line that is answered next is this one, and the session asks what it reads as an act of the table under this
-- name.
pub record IsEnteredAs (IsLine IsName : List ℕ → Type 0) (sent : List Sent) (told : List Told) : Type 0 where
  pub line : List ℕ
  pub name : List ℕ
  pub of_text : IsLine line
  pub named : IsName name
  pub others : List Sent
  pub next : sent ≡ record { line = line; under = Some name } ∷ others
  pub entered : (taken : List Taken) (at : ℕ) (act : Asked) → AreTaken told taken →
      asked at (name_after None taken) (Some (Act act)) ≡ record { at = at; who = Some name; act = act } ∷ []

-- the act of a message, and the opening of a pairing, which stands under White's name
abbrev pub IsEnteredFor : Owed → List Sent → List Told → Type 0
IsEnteredFor (Asker c (ForAct by text)) sent told = IsEnteredAs (IsLineOf text) (IsNameOf by text) sent told
IsEnteredFor (Pairer c by black text) sent told =
    IsEnteredAs (λ line. line ≡ pair_line text) (λ name. name ≡ as_name text) sent told
IsEnteredFor _ sent told = Unit {0}

abbrev pub IsEnteredNext : List Owed → List Sent → List Told → Type 0
IsEnteredNext [] sent told = Unit {0}
IsEnteredNext (o ∷ owed) sent told = IsEnteredFor o sent told

abbrev pub IsEnteredHeard : Bool → List Owed → List Sent → List Told → Type 0
IsEnteredHeard false owed sent told = Unit {0}
IsEnteredHeard true owed sent told = IsEnteredNext owed sent told

-- where an answer to an act counts
abbrev pub IsEntered : DeskInput → Known → List Sent → List Told → Type 0
IsEntered (Heard line) k sent told = IsEnteredHeard (is_counted k line) k.owed sent told
IsEntered _ k sent told = Unit {0}

-- at each step, by what came and went before it
abbrev pub AllEntered : List Player → List Step → Type 0
AllEntered players [] = Unit {0}
AllEntered players (s ∷ past) =
    IsEntered s.event (known_in players past) (unanswered_in players past) (told_in players past)
    × AllEntered players past
