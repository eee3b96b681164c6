-- The games on the server's table, as its answers tell: each waits for a second player, goes on, or is over.
use Rattle.std.specs.Prelude.{ℕ, Bool, true, false, [], ◌∷◌, ◌++◌, ◌&&◌, ◌||◌, nat_le, List, length, codes}
use Rattle.std.specs.Prelude.{Option, None, Some, is_some, if◌then◌else◌}
use Rattle.std.specs.List.{list_all, flat_map}
use Rattle.std.specs.Option.{is_none}
use Rattle.std.specs.Str.{bytes_eq}
use Rattle.text_parts.specs.Parts.{parts_of}
use Rattle.player_name.specs.Name.{is_name_byte}
use Rattle.lobby_words.specs.declared.listing.Seat.{Seat}
use Rattle.lobby_words.specs.declared.listing.Stage.{Stage}
use Rattle.lobby_words.specs.declared.listing.Stage.TheVariants as stages
use Rattle.server_answers.specs.declared.games.Row.{Row}
use Rattle.server_answers.specs.Games.{row_in}
use Rattle.server_answers.specs.Heads.{list_in}
use Rattle.lobby_words.specs.Answers.{first_line}
use Rattle.lobby_words.specs.Words.{word_of, line_said}

-- Whether a message opens a game, whether it joins one, and whether it is one by which a game waits no more: of a
-- pairing that is its second act.
abbrev pub opens_game : List ℕ → Bool
opens_game text = bytes_eq (word_of (line_said text)) (codes "open")

abbrev pub joins_game : List ℕ → Bool
joins_game text = bytes_eq (word_of (line_said text)) (codes "join")

abbrev pub ends_wait : List ℕ → Bool
ends_wait text =
    bytes_eq (word_of (line_said text)) (codes "join") || bytes_eq (word_of (line_said text)) (codes "drop")
    || bytes_eq (word_of (line_said text)) (codes "pair")

-- whether a text is a name (`IsName`)
abbrev pub is_name : List ℕ → Bool
is_name text = nat_le 1 (length text) && nat_le (length text) 16 && list_all is_name_byte text

-- whether a game stands so
abbrev pub is_stage : Stage → Stage → Bool
is_stage stages.Waits stages.Waits = true
is_stage stages.Waits stages.Plays = false
is_stage stages.Waits stages.Over = false
is_stage stages.Plays stages.Waits = false
is_stage stages.Plays stages.Plays = true
is_stage stages.Plays stages.Over = false
is_stage stages.Over stages.Waits = false
is_stage stages.Over stages.Plays = false
is_stage stages.Over stages.Over = true

-- a seat of this player in the game of this number, which stands so
abbrev pub seat_of : Option ℕ → List ℕ → Stage → Option Seat
seat_of None by stage = None
seat_of (Some game) by stage = if is_name by then Some (record { game = game; by = by; stage = stage }) else None

-- The seats in the game of a row: each of its players has one. Where one seat is empty the game waits for its second
-- player; else it goes on while it has no result.
abbrev pub stage_of : Row → Stage
stage_of row =
    if is_none row.seats.white || is_none row.seats.black then stages.Waits
    else (if is_none row.result then stages.Plays else stages.Over)

abbrev pub listed : ℕ → Stage → Option (List ℕ) → List Seat
listed game stage None = []
listed game stage (Some by) = record { game = game; by = by; stage = stage } ∷ []

abbrev pub seats_of : Row → List Seat
seats_of row =
    listed row.game (stage_of row) row.seats.white ++ listed row.game (stage_of row) row.seats.black

abbrev pub seats_by : Option Row → List Seat
seats_by None = []
seats_by (Some row) = seats_of row

abbrev pub seats_row : List ℕ → List Seat
seats_row line = seats_by (row_in line)

-- whether an answer is one to `list` that is accepted, and the seats in the games by its rows
abbrev pub is_list : List ℕ → Bool
is_list answer = is_some (list_in (first_line answer))

abbrev pub seats_in : List ℕ → List Seat
seats_in answer = flat_map seats_row (parts_of 10 answer)
