-- Which lists of events a clock can go through.
use Rattle.std.specs.Prelude.{ℕ, ◌≡◌, ◌<◌, ◌≤◌, ◌+◌, List, ◌∷◌, ◌++◌}
use Rattle.chess_bits.specs.declared.men.Colour.{Colour}
use Rattle.chess_bits.specs.declared.men.Colour.TheVariants.{White, Black}
use Rattle.chess_clock.specs.declared.events.ClockEvent.{ClockEvent}
use Rattle.chess_clock.specs.declared.events.ClockEvent.TheVariants.{Turn}
use Rattle.chess_clock.specs.Events.{time_used}
use Rattle.chess_clock.specs.ClockState.{ClockState, clock_after, time_of, given_within, TimesFit}

-- The side is on move, and a turn of so many milliseconds ends before its flag falls.
pub record EndsInTime (clock : ClockState) (side : Colour) (length : ℕ) : Type 0 where
  pub on_move : side ≡ clock.side
  pub in_time : length < (time_of side clock).held

-- Each turn is one of the side on move, and ends before its flag falls.
abbrev pub TurnsEndInTime : ClockState → List ClockEvent → Type 0
TurnsEndInTime clock events =
    (before : List ClockEvent) (side : Colour) (length : ℕ) (rest : List ClockEvent)
    → events ≡ before ++ Turn side length ∷ rest → EndsInTime (clock_after clock before) side length

-- At the start and after each event the times held fit.
abbrev pub TimesAlwaysFit : ClockState → List ClockEvent → Type 0
TimesAlwaysFit clock events =
    (before rest : List ClockEvent) → events ≡ before ++ rest → TimesFit (clock_after clock before)

-- Neither side has used more time than it held and was given, so that no subtraction was cut at 0.
pub record IsWithinTime (clock : ClockState) (events : List ClockEvent) : Type 0 where
  pub white_within : time_used White events ≤ clock.white.held + given_within White clock events
  pub black_within : time_used Black events ≤ clock.black.held + given_within Black clock events
