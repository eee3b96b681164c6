-- For whom the answers of the server are.
use Rattle.std.specs.Prelude.{ℕ, Bool, false, ◌==◌, List, [], ◌∷◌, Option, None, Some}
use Rattle.std.specs.List.{list_any}
use Rattle.std.specs.String.{string_bytes}
use Rattle.lobby_words.specs.Words.{rest_of}
use Rattle.lobby_table.specs.declared.server_line.Due.{Due}
use Rattle.lobby_table.specs.declared.server_line.Due.TheVariants as dues

-- What the server's answer to a message is for: for the message itself, which changes nothing; for the positions of a
-- game, whose `pgn` it is; for the table, and to be told of it from then on; for a game, to watch it; for this act of
-- this player.
pub data Ask : Type 0 where
  ForItself : Ask
  ForPositions : Ask
  ForTable : Ask
  ForGame : (game : ℕ) → Ask
  ForAct : (by : List ℕ) → (text : List ℕ) → Ask

-- For whom the server's answer to a line is: for nobody; for the desk, which has said this name; for the connection
-- whose message it answers; for the one whose `drop`, by this arbiter, waits for it; for the one whose pairing, by this
-- arbiter, has its game opened, for this player to join it; for those who are told of a game, with the lines that tell
-- of the act, and whether the table is told; for those who are told of the act right behind which the line went out, if
-- the server accepted it.
pub data Owed : Type 0 where
  Nobody : Owed
  Naming : (name : List ℕ) → Owed
  Asker : (c : ℕ) → (ask : Ask) → Owed
  Dropper : (c : ℕ) → (by : List ℕ) → (text : List ℕ) → Owed
  Pairer : (c : ℕ) → (by : List ℕ) → (black : List ℕ) → (text : List ℕ) → Owed
  Followers : (game : ℕ) → (act : List ℕ) → (is_table : Bool) → Owed
  Behind : Owed

-- for whom an answer is, by what the desk keeps of it
abbrev pub owed_of : Due → Owed
owed_of dues.Own = Nobody
owed_of (dues.Name name) = Naming name
owed_of (dues.Reply c) = Asker c ForItself
owed_of (dues.Positions c) = Asker c ForPositions
owed_of (dues.Table c) = Asker c ForTable
owed_of (dues.Act act) = Asker act.from (ForAct act.who (string_bytes act.text))
owed_of (dues.Drop act) = Dropper act.from act.who (string_bytes act.text)
owed_of (dues.Pair act black) = Pairer act.from act.who black (string_bytes act.text)
owed_of (dues.Watch c game) = Asker c (ForGame game)
owed_of (dues.Notice notice) = Followers notice.game (string_bytes notice.act) notice.is_table
owed_of dues.Behind = Behind

-- of lines that go out together the answer to the last is for somebody
abbrev pub owed_last : Owed → List (List ℕ) → List Owed
owed_last who [] = []
owed_last who (line ∷ []) = who ∷ []
owed_last who (line ∷ next ∷ lines) = Nobody ∷ owed_last who (next ∷ lines)

-- Of the lines of an act, with a `name` line before it or not, the answer to the act is for somebody; that to the
-- `name` line for the desk; and that to `fen`, where `show` and `fen` stand behind it, for those who are told of it.
abbrev pub owed_acted : Owed → List (List ℕ) → List Owed
owed_acted who [] = []
owed_acted who (act ∷ []) = who ∷ []
owed_acted who (name ∷ act ∷ []) = Naming (rest_of name) ∷ who ∷ []
owed_acted who (act ∷ show ∷ fen ∷ []) = who ∷ Nobody ∷ Behind ∷ []
owed_acted who (name ∷ act ∷ show ∷ fen ∷ lines) = Naming (rest_of name) ∷ owed_acted who (act ∷ show ∷ fen ∷ lines)

-- for whom the answers to lines are that go out together
abbrev pub owed_some : Owed → List ℕ → List (List ℕ) → List Owed
owed_some (Asker c (ForAct by text)) line lines = owed_acted (Asker c (ForAct by text)) (line ∷ lines)
owed_some (Pairer c by black text) line lines = owed_acted (Pairer c by black text) (line ∷ lines)
owed_some who line lines = owed_last who (line ∷ lines)

abbrev pub owed_lines : Owed → List (List ℕ) → List Owed
owed_lines who [] = []
owed_lines who (line ∷ lines) = owed_some who line lines

abbrev pub is_number : ℕ → Option ℕ → Bool
is_number n None = false
is_number n (Some m) = n == m

-- the connection whose message waits for an answer
abbrev pub waiter : Owed → Option ℕ
waiter (Asker c ask) = Some c
waiter (Dropper c by text) = Some c
waiter (Pairer c by black text) = Some c
waiter _ = None

-- whether the answer to a message of a connection is owed
abbrev pub owes : List Owed → ℕ → Bool
owes owed c = list_any (λ o. is_number c (waiter o)) owed
