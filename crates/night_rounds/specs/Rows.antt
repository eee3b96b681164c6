-- A row of the pairings.
use Rattle.std.specs.Prelude.{ℕ, ℤ, pos, ◌==◌, Bool, ◌&&◌, ◌||◌, List, [], length, get_or, codes}
use Rattle.std.specs.Prelude.{Option, None, Some, Result}
use Rattle.std.specs.Prelude.{Ok, Err, option_map, int_div, if◌then◌else◌}
use Rattle.std.specs.Str.{bytes_eq}
use Rattle.jiff.specs.Words.{parse_timestamp}
use Rattle.lobby_words.specs.Words.{u32_in}
use Rattle.lobby_words.specs.Waiting.{is_name}
use Rattle.night_rounds.specs.declared.rows.Game.{Game}
use Rattle.night_rounds.specs.declared.rows.Pairing.{Pairing}
use Rattle.night_rounds.specs.declared.rows.Against.TheVariants as against
use Rattle.night_report.specs.declared.cells.Bye.{Bye}
use Rattle.night_report.specs.declared.cells.Bye.TheVariants as byes
use Rattle.night_rounds.specs.declared.faults.RowFault.{RowFault}
use Rattle.night_rounds.specs.declared.faults.RowFault.TheVariants as faults
use Rattle.night_rounds.specs.declared.times.Times.{Times}
use Rattle.night_rounds.specs.Times.{times_in, is_empty}

-- a field of a row, empty where it has none
abbrev pub cell : List (List ℕ) → ℕ → List ℕ
cell fields i = get_or fields i []

abbrev pub name_in : List ℕ → Option (List ℕ)
name_in text = if is_name text then Some text else None

-- the milliseconds from 1970 on of a moment with its offset, of which jiff takes more spellings than RFC 3339, as one
-- without seconds
abbrev pub milliseconds : {E : Type 0} → Result ℤ E → Option ℤ
milliseconds (Ok nanoseconds) = Some (int_div nanoseconds (pos 1000000))
milliseconds (Err e) = None

-- the start: at once where the field is empty
abbrev pub start_in : List ℕ → Option (Option ℤ)
start_in text = if is_empty text then Some None else option_map Some (milliseconds (parse_timestamp text))

-- the times: none where the field is empty, of a game that is not played on the server
abbrev pub times_if : List ℕ → Option (Option Times)
times_if text = if is_empty text then Some None else option_map Some (times_in text)

-- a game by its fields
abbrev pub with_start : List ℕ → Option Times → Option (Option ℤ) → Result Game RowFault
with_start black times None = Err faults.BadStart
with_start black times (Some start) = Ok (record { black = black; times = times; start = start })

abbrev pub with_times : List ℕ → List ℕ → Option (Option Times) → Result Game RowFault
with_times black start None = Err faults.BadTimes
with_times black start (Some times) = with_start black times (start_in start)

abbrev pub with_black : List ℕ → List ℕ → List ℕ → Option (List ℕ) → Result Game RowFault
with_black white times start None = Err faults.BadBlack
with_black white times start (Some black) =
    if bytes_eq white black then Err faults.SamePlayer else with_times black start (times_if times)

abbrev pub game_by_fields : List ℕ → List ℕ → List ℕ → List ℕ → Result Game RowFault
game_by_fields white black times start = with_black white times start (name_in black)

-- the bye that stands in the place of the times: nothing or `U`, `F`, `H` or `Z`
abbrev pub bye_in : List ℕ → Option Bye
bye_in text =
    if is_empty text || bytes_eq text (codes "U") then Some byes.Pairing
    else (if bytes_eq text (codes "F") then Some byes.Full
    else (if bytes_eq text (codes "H") then Some byes.Half
    else (if bytes_eq text (codes "Z") then Some byes.Zero else None)))

-- a row of White alone, who has no opponent in this round
abbrev pub bye_of : List ℕ → List ℕ → List ℕ → Option Bye
bye_of black times start = if is_empty black && is_empty start then bye_in times else None

abbrev pub with_game : ℕ → List ℕ → Result Game RowFault → Result Pairing RowFault
with_game board white (Ok game) = Ok (record { board = board; white = white; against = against.Game game })
with_game board white (Err fault) = Err fault

abbrev pub with_bye : ℕ → List ℕ → List ℕ → List ℕ → List ℕ → Option Bye → Result Pairing RowFault
with_bye board white black times start None = with_game board white (game_by_fields white black times start)
with_bye board white black times start (Some bye) =
    Ok (record { board = board; white = white; against = against.Bye bye })

abbrev pub with_white : ℕ → List ℕ → List ℕ → List ℕ → Option (List ℕ) → Result Pairing RowFault
with_white board black times start None = Err faults.BadWhite
with_white board black times start (Some white) = with_bye board white black times start (bye_of black times start)

-- a board's number is not 0
abbrev pub board_of : Option ℕ → Option ℕ
board_of None = None
board_of (Some n) = if n == 0 then None else Some n

abbrev pub with_board : List ℕ → List ℕ → List ℕ → List ℕ → Option ℕ → Result Pairing RowFault
with_board white black times start None = Err faults.BadBoard
with_board white black times start (Some board) = with_white board black times start (name_in white)

-- the pairing of a row's five fields, or the first fault
unfoldable pub row_in : List (List ℕ) → Result Pairing RowFault
row_in fields =
    if length fields == 5
    then with_board (cell fields 1) (cell fields 2) (cell fields 3) (cell fields 4) (board_of (u32_in (cell fields 0)))
    else Err faults.BadShape

-- the row above the pairings
unfoldable pub is_header : List (List ℕ) → Bool
is_header fields =
    (length fields == 5) && bytes_eq (cell fields 0) (codes "board") && bytes_eq (cell fields 1) (codes "white")
    && bytes_eq (cell fields 2) (codes "black") && bytes_eq (cell fields 3) (codes "times")
    && bytes_eq (cell fields 4) (codes "start")
