-- What can be known of a clock, and what a game does to it, by the same sums.
use Rattle.std.specs.Prelude.{ℕ, ◌≡◌, ◌+◌, ◌-◌, ◌*◌, ◌%◌, ◌^◌, ◌<◌, ◌≤◌, Bool, false, true, not, ◌&&◌, ◌==◌, List, []}
use Rattle.std.specs.Prelude.{◌∷◌, if◌then◌else◌}
use Rattle.chess_bits.specs.declared.men.Colour.{Colour}
use Rattle.chess_bits.specs.declared.men.Colour.TheVariants.{White, Black}
use Rattle.chess_bits.specs.Man.{other, is_colour}
use Rattle.chess_clock.specs.declared.events.ClockEvent.{ClockEvent}
use Rattle.chess_clock.specs.declared.events.ClockEvent.TheVariants.{Turn}
use Rattle.chess_clock.specs.TimeControl.{TimeControl, moves_to_go}
use Rattle.chess_clock.specs.Events.{completed_moves, wrong_claims, time_used}
use Rattle.chess_clock.specs.Held.{held}
pub use Rattle.chess_clock.specs.SideTimes.{SideTime}
use Rattle.chess_clock.specs.SideTimes.{given_further}

-- The times set, the side on move, the moment at which its turn began, and what each side held then, with its moves to
-- go. A stopped clock has the moment of the stop instead, and its times do not change any more.
pub record ClockState : Type 0 where
  pub control : TimeControl
  pub side : Colour
  pub since : ℕ
  pub white : SideTime
  pub black : SideTime
  pub is_stopped : Bool

abbrev pub time_of : Colour → ClockState → SideTime
time_of White clock = clock.white
time_of Black clock = clock.black

-- the clock that starts with a turn of the side at this moment
abbrev pub started : TimeControl → Colour → ℕ → ClockState
started control side at =
    let time : SideTime = record { held = 1000 * control.initial; to_go = moves_to_go control.period 0 } in
    record { control = control; side = side; since = at; white = time; black = time; is_stopped = false }

-- the length of the running turn at this moment
abbrev pub running_turn : ClockState → ℕ → ℕ
running_turn clock at = at - clock.since

-- The flag has fallen: the running turn is at least as long as the time that the side on move holds.
abbrev pub HasFallen : ClockState → ℕ → Type 0
HasFallen clock at = (time_of clock.side clock).held ≤ running_turn clock at

-- whether the side's time runs
abbrev pub clock_runs : Colour → ClockState → Bool
clock_runs side clock = is_colour side clock.side && not clock.is_stopped

-- The time that a side has left: what it holds, less the running turn where its time runs, never below 0.
abbrev pub left : Colour → ClockState → ℕ → ℕ
left side clock at =
    let time = time_of side clock in
    if clock_runs side clock then time.held - running_turn clock at else time.held

-- what a side is given while these events happen
abbrev pub given_within : Colour → ClockState → List ClockEvent → ℕ
given_within side clock events =
    given_further clock.control (time_of side clock).to_go
    (completed_moves side events) (wrong_claims (other side) events)

-- a side's time after these events: the sums go on from what it was
abbrev pub time_after : Colour → ClockState → List ClockEvent → SideTime
time_after side clock events = record {
  held = (time_of side clock).held + given_within side clock events - time_used side events;
  to_go = (time_of side clock).to_go - completed_moves side events;
}

-- the side on move after so many turns, since the players alternate (FIDE article 1.2)
abbrev pub on_move_after : Colour → ℕ → Colour
on_move_after side turns = if turns % 2 == 0 then side else other side

-- the clock after these events
abbrev pub clock_after : ClockState → List ClockEvent → ClockState
clock_after clock events = record {
  control = clock.control;
  side = on_move_after clock.side (completed_moves White events + completed_moves Black events);
  since = clock.since + (time_used White events + time_used Black events);
  white = time_after White clock events;
  black = time_after Black clock events;
  is_stopped = clock.is_stopped;
}

-- the turn that ends at this moment with a completed move, as the only event
abbrev pub turn_ended : ClockState → ℕ → List ClockEvent
turn_ended clock at = Turn clock.side (running_turn clock at) ∷ []

-- the clock that is stopped at this moment: each side holds what it had left
abbrev pub stopped_at : ClockState → ℕ → ClockState
stopped_at clock at = record {
  control = clock.control;
  side = clock.side;
  since = at;
  white = record { held = left White clock at; to_go = clock.white.to_go };
  black = record { held = left Black clock at; to_go = clock.black.to_go };
  is_stopped = true;
}

-- the clock with another time of a side
abbrev pub with_time : Colour → ClockState → SideTime → ClockState
with_time White clock time = record clock { white = time }
with_time Black clock time = record clock { black = time }

-- No time held has come to pass 4,294,967,295 milliseconds.
pub record TimesFit (clock : ClockState) : Type 0 where
  pub white_fits : clock.white.held < 2 ^ 32
  pub black_fits : clock.black.held < 2 ^ 32

-- A clock that runs shows no moment before the start of its turn.
abbrev pub IsNotBefore : ClockState → ℕ → Type 0
IsNotBefore clock at = clock.is_stopped ≡ false → clock.since ≤ at

-- the clock of a game with these times, of which the side began at this moment, after these events
abbrev pub clock_of : TimeControl → Colour → ℕ → List ClockEvent → ClockState
clock_of control side at events = record {
  control = control;
  side = on_move_after side (completed_moves White events + completed_moves Black events);
  since = at + (time_used White events + time_used Black events);
  white = record {
    held = held White control events;
    to_go = moves_to_go control.period (completed_moves White events);
  };
  black = record {
    held = held Black control events;
    to_go = moves_to_go control.period (completed_moves Black events);
  };
  is_stopped = false;
}
