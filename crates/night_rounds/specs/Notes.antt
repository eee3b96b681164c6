-- A note of the round's file, an object of JSON in a line: how far the game of a board is.
use Rattle.std.specs.Prelude.{ℕ, ◌≡◌, ◌<◌, ◌^◌, ◌==◌, true, List, [], ◌∷◌, ◌++◌, codes, decimal, Option, None, Some}
use Rattle.std.specs.Prelude.{if◌then◌else◌}
use Rattle.std.specs.Str.{bytes_eq}
use Rattle.lobby_words.specs.Words.{number_or_0}
use Rattle.lobby_words.specs.Waiting.{is_name}
use Rattle.night_rounds.specs.declared.notes.Note.{Note}
use Rattle.night_rounds.specs.declared.notes.Stage.{Stage}
use Rattle.night_rounds.specs.declared.notes.Stage.TheVariants as stages
use Rattle.night_rounds.specs.Times.{front_of, rest_of}
use Rattle.night_rounds.specs.Rows.{name_in}

-- how far the game of a board is: about to be opened, newer than this game, where there is one; opened with this
-- number; joined by Black
pub data Reached : Type 0 where
  Opening : (older : Option ℕ) → Reached
  Opened : (game : ℕ) → Reached
  Joined : (game : ℕ) → Reached

abbrev pub reached : Stage → Reached
reached (stages.Opening older) = Opening older
reached (stages.Opened game) = Opened game
reached (stages.Joined game) = Joined game

-- the board's game, where that was opened
abbrev pub game_in : Reached → Option ℕ
game_in (Opening older) = None
game_in (Opened game) = Some game
game_in (Joined game) = Some game

-- what a note tells
pub record NoteState : Type 0 where
  pub board : ℕ
  pub white : List ℕ
  pub black : List ℕ
  pub stage : Reached

abbrev pub note_state : Note → NoteState
note_state n = record { board = n.board; white = n.white; black = n.black; stage = reached n.stage }

abbrev pub stage_word : Reached → List ℕ
stage_word (Opening older) = codes "opening"
stage_word (Opened game) = codes "opened"
stage_word (Joined game) = codes "joined"

-- the game that is older; `[]` where there is none
abbrev pub older_text : Option ℕ → List ℕ
older_text None = codes "[]"
older_text (Some game) = decimal game

abbrev pub value_text : Reached → List ℕ
value_text (Opening older) = older_text older
value_text (Opened game) = decimal game
value_text (Joined game) = decimal game

abbrev pub quoted : List ℕ → List ℕ
quoted text = codes "\"" ++ (text ++ codes "\"")

-- a name, and what stands for it
abbrev pub member_text : List ℕ → List ℕ → List ℕ
member_text name value = quoted name ++ (codes ":" ++ value)

-- `{"board":3,"white":"ann","black":"bob","opened":17}`
unfoldable pub note_text : NoteState → List ℕ
note_text n =
    codes "{" ++ (member_text (codes "board") (decimal n.board)
    ++ (codes "," ++ (member_text (codes "white") (quoted n.white)
    ++ (codes "," ++ (member_text (codes "black") (quoted n.black)
    ++ (codes "," ++ (member_text (stage_word n.stage) (value_text n.stage) ++ codes "}")))))))

-- what stands behind a member's name, and what stands in its first quotes
abbrev pub value_of : List ℕ → List ℕ
value_of member = rest_of 58 member

abbrev pub unquoted : List ℕ → List ℕ
unquoted text = front_of 34 (rest_of 34 text)

-- the members of a line, in their order
abbrev pub member_in : List ℕ → List ℕ
member_in line = front_of 44 line

abbrev pub behind_one : List ℕ → List ℕ
behind_one line = rest_of 44 line

abbrev pub behind_two : List ℕ → List ℕ
behind_two line = rest_of 44 (behind_one line)

abbrev pub behind_three : List ℕ → List ℕ
behind_three line = rest_of 44 (behind_two line)

abbrev pub board_in : List ℕ → ℕ
board_in line = number_or_0 (value_of (member_in line))

abbrev pub white_in : List ℕ → Option (List ℕ)
white_in line = name_in (unquoted (value_of (member_in (behind_one line))))

abbrev pub black_in : List ℕ → Option (List ℕ)
black_in line = name_in (unquoted (value_of (member_in (behind_two line))))

abbrev pub older_in : List ℕ → Option ℕ
older_in text = if bytes_eq text (codes "[]") then None else Some (number_or_0 text)

-- how far a game is by a word and what stands for it
abbrev pub reached_in : List ℕ → List ℕ → Option Reached
reached_in word value =
    if bytes_eq word (codes "opening") then Some (Opening (older_in value))
    else (if bytes_eq word (codes "opened") then Some (Opened (number_or_0 value))
    else (if bytes_eq word (codes "joined") then Some (Joined (number_or_0 value)) else None))

abbrev pub last_word : List ℕ → List ℕ
last_word line = unquoted (behind_three line)

abbrev pub last_value : List ℕ → List ℕ
last_value line = front_of 125 (value_of (behind_three line))

abbrev pub stage_in : List ℕ → Option Reached
stage_in line = reached_in (last_word line) (last_value line)

-- the note of which a line may be that
abbrev pub likely_of : ℕ → Option (List ℕ) → Option (List ℕ) → Option Reached → Option NoteState
likely_of board (Some white) (Some black) (Some stage) =
    Some (record { board = board; white = white; black = black; stage = stage })
likely_of board (Some white) (Some black) None = None
likely_of board (Some white) None stage = None
likely_of board None black stage = None

unfoldable pub likely_note : List ℕ → Option NoteState
likely_note line = likely_of (board_in line) (white_in line) (black_in line) (stage_in line)

abbrev pub where_spelled : List ℕ → Option NoteState → Option NoteState
where_spelled line None = None
where_spelled line (Some note) = if bytes_eq (note_text note) line then Some note else None

-- what the note of a line tells; none where it is that of none
abbrev pub note_in : List ℕ → Option NoteState
note_in line = where_spelled line (likely_note line)

-- its number is that of a game
abbrev pub IsReached : Reached → Type 0
IsReached (Opening None) = Unit {0}
IsReached (Opening (Some game)) = game < 2 ^ 32
IsReached (Opened game) = game < 2 ^ 32
IsReached (Joined game) = game < 2 ^ 32

-- a note of players with names, whose numbers are those of games and boards
pub record IsNote (n : NoteState) : Type 0 where
  pub board : n.board < 2 ^ 32
  pub stage : IsReached n.stage
  pub white : is_name n.white ≡ true
  pub black : is_name n.black ≡ true

-- the last note of a board, behind one that was found before
abbrev pub last_from : ℕ → List Note → Option Note → Option Note
last_from board [] found = found
last_from board (note ∷ notes) found = last_from board notes (if note.board == board then Some note else found)

abbrev pub last_of : ℕ → List Note → Option Note
last_of board notes = last_from board notes None
