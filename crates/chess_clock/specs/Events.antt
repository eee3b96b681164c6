-- What a game does to its clock: a list of turns and wrong claims, and what is counted in it.
use Rattle.std.specs.Prelude.{ℕ, Bool, false, List, count_by, sum_by, if◌then◌else◌}
use Rattle.chess_bits.specs.declared.men.Colour.{Colour}
use Rattle.chess_bits.specs.Man.{is_colour}
use Rattle.chess_clock.specs.declared.events.ClockEvent.{ClockEvent}
use Rattle.chess_clock.specs.declared.events.ClockEvent.TheVariants.{Turn, WrongClaim}

-- whether an event is a finished turn of the side: one that ended with a completed move
abbrev pub is_turn_of : Colour → ClockEvent → Bool
is_turn_of side (Turn mover length) = is_colour side mover
is_turn_of side (WrongClaim claimant) = false

-- whether an event is a wrong claim by the side
abbrev pub is_wrong_claim_of : Colour → ClockEvent → Bool
is_wrong_claim_of side (Turn mover length) = false
is_wrong_claim_of side (WrongClaim claimant) = is_colour side claimant

-- the milliseconds of an event that are a finished turn of the side
abbrev pub turn_length_of : Colour → ClockEvent → ℕ
turn_length_of side (Turn mover length) = if is_colour side mover then length else 0
turn_length_of side (WrongClaim claimant) = 0

-- how many moves a side has completed
abbrev pub completed_moves : Colour → List ClockEvent → ℕ
completed_moves side events = count_by (is_turn_of side) events

-- how many wrong claims a side has made
abbrev pub wrong_claims : Colour → List ClockEvent → ℕ
wrong_claims side events = count_by (is_wrong_claim_of side) events

-- the sum of the lengths of a side's finished turns, in milliseconds
abbrev pub time_used : Colour → List ClockEvent → ℕ
time_used side events = sum_by (turn_length_of side) events
