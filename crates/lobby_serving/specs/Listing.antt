-- How many games the lines of an answer to `list` tell.
use Rattle.std.specs.Prelude.{ℕ, ◌+◌, ◌-◌, ◌^◌, Bool, true, false, List, Option, None, Some, min, option_map}
use Rattle.std.specs.Prelude.{if◌then◌else◌}
use Rattle.server_answers.specs.declared.games.Row.{Row}
use Rattle.server_answers.specs.Games.{row_in}
use Rattle.server_answers.specs.Heads.{list_in}
use Rattle.lobby_serving.specs.declared.listing.Games.{Games}

-- One of two seats alone is empty.
abbrev pub waits_by : Option (List ℕ) → Option (List ℕ) → Bool
waits_by None None = false
waits_by None (Some black) = true
waits_by (Some white) None = true
waits_by (Some white) (Some black) = false

-- A game waits for its second player.
abbrev pub waits : Row → Bool
waits row = waits_by row.seats.white row.seats.black

-- what the first line tells, where it is a list's: so many games, and none of them seen yet
abbrev pub first_told : List ℕ → Option Games
first_told first = option_map (λ rows. record { all = rows; waiting = 0 }) (list_in first)

abbrev pub with_row : Games → Row → Games
with_row before row = record {
  all = before.all;
  waiting = min (before.waiting + (if waits row then 1 else 0)) (2 ^ 64 - 1);
}

-- what these and one line more tell, where it is a row
abbrev pub row_told : Games → List ℕ → Option Games
row_told before line = option_map (with_row before) (row_in line)
