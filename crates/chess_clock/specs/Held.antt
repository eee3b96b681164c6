-- The time that a side holds, as a sum over the whole game (our own choice: the FIDE Laws leave the details of clocks
-- to the event).
use Rattle.std.specs.Prelude.{ℕ, ◌+◌, ◌-◌, ◌*◌, List}
use Rattle.chess_bits.specs.declared.men.Colour.{Colour}
use Rattle.chess_bits.specs.Man.{other}
use Rattle.chess_clock.specs.declared.events.ClockEvent.{ClockEvent}
use Rattle.chess_clock.specs.TimeControl.{TimeControl, second_period}
use Rattle.chess_clock.specs.Events.{completed_moves, wrong_claims, time_used}

-- The milliseconds that a side is given which completes so many moves and whose opponent makes so many wrong claims:
-- its initial time, the increment for each of the moves, 120,000 for each of the claims, and the second period once it
-- has completed the moves before it.
abbrev pub given_for : TimeControl → ℕ → ℕ → ℕ
given_for control moves claims =
    1000 * control.initial
    + 1000 * control.increment * moves
    + 120000 * claims
    + second_period control.period moves

-- what a side has been given in a game
abbrev pub given : Colour → TimeControl → List ClockEvent → ℕ
given side control events = given_for control (completed_moves side events) (wrong_claims (other side) events)

-- The time that a side holds: what it has been given, less the lengths of its finished turns.
abbrev pub held : Colour → TimeControl → List ClockEvent → ℕ
held side control events = given side control events - time_used side events
