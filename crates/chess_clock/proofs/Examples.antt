-- Worked games, computed: the sums over their events, and what a clock shows.
use Rattle.std.proofs.Common.{◌≡◌, List, [], ◌∷◌, Some, None, refl, arith}
use Rattle.chess_bits.specs.declared.men.Colour.TheVariants.{White, Black}
use Rattle.chess_clock.specs.declared.events.ClockEvent.{ClockEvent}
use Rattle.chess_clock.specs.declared.events.ClockEvent.TheVariants.{Turn, WrongClaim}
use Rattle.chess_clock.specs.TimeControl.{time_control}
use Rattle.chess_clock.specs.Held.{held}
use Rattle.chess_clock.specs.ClockState.{started, clock_after, left, stopped_at, clock_of, HasFallen}

-- 60 s and 2 s a move: a move with the last millisecond but one leaves 1 ms and the increment.
one_move : held White (time_control 60 2 None) (Turn White 59999 ∷ []) ≡ 2001
one_move = refl

waits : held Black (time_control 60 2 None) (Turn White 59999 ∷ []) ≡ 60000
waits = refl

-- the flag is up at 60,999 of a turn that began at 1,000, and has fallen at 61,000
falls : HasFallen (started (time_control 60 2 None) White 1000) 61000
falls = omega arith

not_yet : HasFallen (started (time_control 60 2 None) White 1000) 60999 → ⊥
not_yet h = omega arith

-- the time left is never below 0
nothing_left : left White (started (time_control 1 0 None) White 0) 5000 ≡ 0
nothing_left = refl

-- eight moves at once, then White claims wrongly, moves after 4 s, and Black claims wrongly
eight_moves : List ClockEvent
eight_moves =
    Turn White 0 ∷ Turn Black 0 ∷ Turn White 0 ∷ Turn Black 0
    ∷ Turn White 0 ∷ Turn Black 0 ∷ Turn White 0 ∷ Turn Black 0
    ∷ WrongClaim White ∷ Turn White 4000 ∷ WrongClaim Black ∷ []

white_after_claims : held White (time_control 300 0 None) eight_moves ≡ 416000
unfolding eight_moves
white_after_claims = refl

black_after_claims : held Black (time_control 300 0 None) eight_moves ≡ 420000
unfolding eight_moves
black_after_claims = refl

-- Black has been on move since 5,000, so at 6,000 has 1 s less; the clock that is stopped then stands still
black_left : left Black (clock_of (time_control 300 0 None) White 1000 eight_moves) 6000 ≡ 419000
unfolding eight_moves
black_left = refl

stands_still : left Black (stopped_at (clock_of (time_control 300 0 None) White 1000 eight_moves) 6000) 9000 ≡ 419000
unfolding eight_moves
stands_still = refl

-- One move in 60 s, then 30 s more, and 2 s a move.
first_of_two_periods : held White (time_control 60 2 (Some (1, 30))) (Turn White 10000 ∷ []) ≡ 82000
first_of_two_periods = refl

other_side : held Black (time_control 60 2 (Some (1, 30))) (Turn White 10000 ∷ []) ≡ 60000
other_side = refl

both_in_second : held Black (time_control 60 2 (Some (1, 30))) (Turn White 10000 ∷ Turn Black 59999 ∷ []) ≡ 32001
both_in_second = refl

-- the second period is given once, with its move and not after it
given_once :
    held White (time_control 60 2 (Some (1, 30))) (Turn White 10000 ∷ Turn Black 59999 ∷ Turn White 0 ∷ []) ≡ 84000
given_once = refl

-- The other way: two moves before the period, of which one is completed.
one_to_go : held White (time_control 60 0 (Some (2, 30))) (Turn White 0 ∷ Turn Black 0 ∷ []) ≡ 60000
one_to_go = refl

with_the_second_move :
    held White (time_control 60 0 (Some (2, 30))) (Turn White 0 ∷ Turn Black 0 ∷ Turn White 0 ∷ []) ≡ 90000
with_the_second_move = refl

-- a clock that goes on from what it showed after the first move gives the period with the second
goes_on :
    clock_after (clock_after (started (time_control 60 0 (Some (2, 30))) White 0) (Turn White 0 ∷ Turn Black 0 ∷ []))
    (Turn White 7 ∷ [])
    ≡ clock_of (time_control 60 0 (Some (2, 30))) White 0 (Turn White 0 ∷ Turn Black 0 ∷ Turn White 7 ∷ [])
goes_on = refl
