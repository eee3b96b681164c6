-- What a game keeps.
use Rattle.std.specs.Prelude.{◌≡◌}
use Rattle.chess_bits.specs.declared.men.Colour.{Colour}
use Rattle.chess_bits.specs.declared.men.Colour.TheVariants.{White, Black}
use Rattle.chess_clock.specs.TimeControl.{time_control}
use Rattle.chess_clock.specs.ClockState.{time_of}
use Rattle.chess_entry.specs.State.{GameState, SeatState}
use Rattle.chess_entry.specs.Bounds.{IsGame}
use Rattle.chess_game.specs.declared.sides.Sides.{Sides}
use Rattle.chess_game.specs.declared.games.Game.TheInside.{Inside}
use Rattle.chess_game.specs.Sides.{seat_kept}
use Rattle.chess_game.specs.ClockFor.{clock_for}

abbrev pub seat_state : Sides → Colour → SeatState
seat_state sides side = record {
  name = (seat_kept side sides).name;
  held = (time_of side sides.clock).held;
  offers = (seat_kept side sides).offers;
}

-- what the players see of a game
abbrev pub state_of : Inside → GameState
state_of g = record {
  number = g.number;
  start = g.line.start;
  control = time_control g.times.initial g.times.increment g.times.period;
  white = seat_state g.sides White;
  black = seat_state g.sides Black;
  moves = g.line.moves;
  moment = g.sides.clock.since;
  claimed = g.sides.claimed;
  ending = g.sides.ending;
}

-- The clock is that of the game, and the game is one of at most 20,000 moves.
pub record IsSound (g : Inside) : Type 0 where
  pub clock : g.sides.clock ≡ clock_for (state_of g)
  pub game : IsGame 20000 (state_of g)
