-- The table that a list of entries means. Each field is read off the whole list.
use Rattle.std.specs.Prelude.{ℕ, if◌then◌else◌, List, [], ◌∷◌, filter, length, map, max, Option, Some, None}
use Rattle.std.specs.List.{flat_map, list_any, last_or, range_with_len}
use Rattle.chess_bits.specs.declared.men.Colour.{Colour}
use Rattle.chess_bits.specs.declared.men.Colour.TheVariants.{White, Black}
use Rattle.chess_bits.specs.Man.{is_colour}
use Rattle.chess_clock.specs.TimeControl.{TimeControl, time_control}
use Rattle.rec_codec.specs.declared.limits.Limits.{Limits}
use Rattle.rec_codec.specs.declared.record.Entry.{Entry}
use Rattle.rec_codec.specs.declared.record.Opening.{Opening}
use Rattle.chess_entry.specs.State.{SeatState, GameState, TableState}
use Rattle.chess_entry.specs.Story.{entries_of, first_given, opening_of, joiner_of, is_open, is_drop}
use Rattle.chess_entry.specs.Outcome.{moves_made, ending_in}
use Rattle.chess_entry.specs.GameTimes.{held_in, moment_in}
use Rattle.chess_entry.specs.Standing.{offers_in, claimed_in}

-- the times that a game was opened with
abbrev pub control_of : Opening → TimeControl
control_of opening = time_control opening.initial opening.increment opening.period

-- who plays a side: who opened the game has the colour that the opening names, and who joined it the other
abbrev pub player_in : Opening → List Entry → Colour → Option (List ℕ)
player_in opening entries side =
    if is_colour side opening.colour then Some opening.name else first_given (λ e. joiner_of e.event) entries

abbrev pub seat_in : Opening → List Entry → Colour → SeatState
seat_in opening entries side = record {
  name = player_in opening entries side;
  held = held_in opening.start (control_of opening) entries side;
  offers = offers_in opening.start entries side;
}

-- the game of a number that was opened so, by all its entries
abbrev pub game_in : ℕ → Opening → List Entry → GameState
game_in number opening entries = record {
  number = number;
  start = opening.start;
  control = control_of opening;
  white = seat_in opening entries White;
  black = seat_in opening entries Black;
  moves = moves_made opening.start entries;
  moment = moment_in opening.start entries;
  claimed = claimed_in opening.start entries;
  ending = ending_in opening.start entries;
}

abbrev pub game_if : ℕ → Option Opening → List Entry → List GameState
game_if number None entries = []
game_if number (Some opening) entries = game_in number opening entries ∷ []

-- the game of a number, where it was opened and not dropped
abbrev pub game_shown : ℕ → List Entry → List GameState
game_shown number entries =
    if list_any (λ e. is_drop e.event) entries then []
    else game_if number (first_given (λ e. opening_of e.event) entries) entries

-- the last number given to a game, 0 where none was
abbrev pub number_of : Option Entry → ℕ
number_of None = 0
number_of (Some e) = e.game

abbrev pub last_number : List Entry → ℕ
last_number entries = number_of (last_or None (filter (λ e. is_open e.event) entries))

-- the games on the table, by rising number
abbrev pub games_shown : List Entry → List GameState
games_shown entries =
    flat_map (λ number. game_shown number (entries_of number entries)) (range_with_len 1 (last_number entries))

abbrev pub greatest : List ℕ → ℕ
greatest [] = 0
greatest (n ∷ ns) = max n (greatest ns)

-- the table of a list of entries, with the limits that it has beside the list
abbrev pub table_of : Limits → List Entry → TableState
table_of limits entries = record {
  limits = limits;
  games = games_shown entries;
  moment = greatest (map (λ e. e.moment) entries);
  last = last_number entries;
  entries = length entries;
}
