-- The clock and the sides of a game, by what the players see of it.
use Rattle.std.specs.Prelude.{ℕ}
use Rattle.chess_bits.specs.declared.men.Colour.{Colour}
use Rattle.chess_bits.specs.declared.men.Colour.TheVariants.{White, Black}
use Rattle.chess_clock.specs.TimeControl.{moves_to_go}
use Rattle.chess_clock.specs.ClockState.{ClockState}
use Rattle.chess_entry.specs.State.{GameState, SeatState, position_of, ply_of, is_over}
use Rattle.chess_entry.specs.Follow.{completed}
use Rattle.chess_game.specs.declared.sides.Seat.{Seat}
use Rattle.chess_game.specs.declared.sides.Sides.{Sides}
use Rattle.chess_game.specs.Scoresheet.{ScoresheetState}

-- the moves that a side has to complete before its second period
abbrev pub to_go_for : GameState → Colour → ℕ
to_go_for game side = moves_to_go game.control.period (completed game.start.side side (ply_of game))

-- Each side holds its time, and has the moves to go that it has not completed. The clock of a game that is over is
-- stopped. Before the join it stands at 0, and is not asked.
abbrev pub clock_for : GameState → ClockState
clock_for game = record {
  control = game.control;
  side = (position_of game).side;
  since = game.moment;
  white = record { held = game.white.held; to_go = to_go_for game White };
  black = record { held = game.black.held; to_go = to_go_for game Black };
  is_stopped = is_over game;
}

abbrev pub seat_for : SeatState → Seat
seat_for seat = record { name = seat.name; offers = seat.offers }

abbrev pub sides_for : GameState → Sides
sides_for game = record {
  clock = clock_for game;
  white = seat_for game.white;
  black = seat_for game.black;
  claimed = game.claimed;
  ending = game.ending;
}

abbrev pub line_for : GameState → ScoresheetState
line_for game = record { start = game.start; moves = game.moves }
