-- How much time a side can hold: with at most 20,000 moves in a game it fits 32 bits.
use Rattle.std.proofs.Common.{ℕ, ◌≡◌, ◌+◌, ◌-◌, ◌*◌, ◌≤◌, List, Option, Some, None, refl, ap, ◌∙◌, arith}
use Rattle.std.specs.Option.{ForSome}
use Rattle.std.proofs.lemmas.Bool.Decides.{nat_tests}
use Rattle.chess_bits.specs.declared.men.Colour.{Colour}
use Rattle.chess_bits.specs.declared.men.Colour.TheVariants.{White, Black}
use Rattle.chess_bits.specs.Man.{other}
use Rattle.chess_clock.specs.declared.events.ClockEvent.{ClockEvent}
use Rattle.chess_clock.specs.TimeControl.{TimeControl, IsTimeControl, IsPeriod, time_control, second_period, moves_to_go}
use Rattle.chess_clock.specs.Events.{completed_moves, wrong_claims, time_used}
use Rattle.chess_clock.specs.Held.{given_for}
use Rattle.chess_clock.specs.SideTimes.{SideTime, second_within, given_further}
use Rattle.chess_clock.specs.ClockState.{ClockState, clock_after, started, time_of, TimesFit}

second_period-at_most : (period : Option (ℕ × ℕ)) (moves : ℕ)
    → ForSome period IsPeriod → second_period period moves ≤ 86400000
second_period-at_most None moves ranges = omega arith
second_period-at_most (Some period) moves ranges =
    let seconds_to : period.1 ≤ 86400 = (ranges period refl).seconds_to in
    grind (arith, nat_tests)

increments-at_most : (increment moves : ℕ) → increment ≤ 60 → moves ≤ 10000 → 1000 * increment * moves ≤ 600000000
increments-at_most increment moves i m = grind arith

-- What a side is given in a game of at most 20,000 moves, in which its opponent claims at most once in a turn.
pub given_for-at_most : (control : TimeControl) (moves claims : ℕ)
    → IsTimeControl control → moves ≤ 10000 → claims ≤ 10001 → given_for control moves claims ≤ 1972920000
given_for-at_most control moves claims ranges m c =
    let second = second_period-at_most control.period moves ranges.period_in_range in
    let increments = increments-at_most control.increment moves ranges.increment_to m in
    let initial_to = ranges.initial_to in
    omega arith

-- A side that has completed so many moves, and whose opponent has made so many wrong claims, holds no more than it was
-- given for them, and has the moves to go that are left.
pub record IsAccounted (side : Colour) (clock : ClockState) (moves claims : ℕ) : Type 0 where
  pub at_most : (time_of side clock).held ≤ given_for clock.control moves claims
  pub to_go : (time_of side clock).to_go ≡ moves_to_go clock.control.period moves

-- at the start
pub IsAccounted-started : (side : Colour) (control : TimeControl) (mover : Colour) (at : ℕ)
    → IsAccounted side (started control mover at) 0 0
IsAccounted-started White control mover at = record { at_most = omega arith; to_go = refl }
IsAccounted-started Black control mover at = record { at_most = omega arith; to_go = refl }

-- what the second period has added after n moves, and adds within m more
second_period-more : (initial increment : ℕ) (period : Option (ℕ × ℕ)) (n m : ℕ)
    → second_period period n + second_within (time_control initial increment period) (moves_to_go period n) m
    ≡ second_period period (n + m)
second_period-more initial increment None n m = grind (arith, nat_tests)
second_period-more initial increment (Some period) n m = grind (arith, nat_tests)

moves_to_go-more : (period : Option (ℕ × ℕ)) (n m : ℕ) → moves_to_go period n - m ≡ moves_to_go period (n + m)
moves_to_go-more None n m = omega arith
moves_to_go-more (Some period) n m = omega arith

-- what is given for these moves and claims, and then for more of them
pub given_for-more : (control : TimeControl) (n m c d : ℕ)
    → given_for control n c + given_further control (moves_to_go control.period n) m d
    ≡ given_for control (n + m) (c + d)
given_for-more control n m c d =
    let second = second_period-more control.initial control.increment control.period n m in
    omega arith

at_most_after : (control : TimeControl) (time : SideTime) (n m c d used : ℕ)
    → time.held ≤ given_for control n c → time.to_go ≡ moves_to_go control.period n
    → time.held + given_further control time.to_go m d - used ≤ given_for control (n + m) (c + d)
at_most_after control time n m c d used at_most to_go =
    let further = ap (λ k. given_further control k m d) to_go in
    let more = given_for-more control n m c d in
    omega (arith, further, more)

-- after these events
pub IsAccounted-after : (side : Colour) (clock : ClockState) (events : List ClockEvent) (moves claims : ℕ)
    → IsAccounted side clock moves claims
    → IsAccounted side (clock_after clock events)
    (moves + completed_moves side events) (claims + wrong_claims (other side) events)
IsAccounted-after White clock events moves claims so_far =
    let n = completed_moves White events in
    let c = wrong_claims Black events in
    let used = time_used White events in
    record {
      at_most = at_most_after clock.control clock.white moves n claims c used so_far.at_most so_far.to_go;
      to_go = ap (λ k. k - n) so_far.to_go ∙ moves_to_go-more clock.control.period moves n;
    }
IsAccounted-after Black clock events moves claims so_far =
    let n = completed_moves Black events in
    let c = wrong_claims White events in
    let used = time_used Black events in
    record {
      at_most = at_most_after clock.control clock.black moves n claims c used so_far.at_most so_far.to_go;
      to_go = ap (λ k. k - n) so_far.to_go ∙ moves_to_go-more clock.control.period moves n;
    }

-- so the times fit
pub TimesFit-from_accounted : (clock : ClockState) (white_moves black_moves white_claims black_claims : ℕ)
    → IsTimeControl clock.control
    → IsAccounted White clock white_moves black_claims → IsAccounted Black clock black_moves white_claims
    → white_moves ≤ 10000 → black_moves ≤ 10000 → white_claims ≤ 10001 → black_claims ≤ 10001 → TimesFit clock
TimesFit-from_accounted clock white_moves black_moves white_claims black_claims ranges white black wm bm wc bc =
    let w = given_for-at_most clock.control white_moves black_claims ranges wm bc in
    let b = given_for-at_most clock.control black_moves white_claims ranges bm wc in
    let white_held = white.at_most in
    let black_held = black.at_most in
    record { white_fits = omega arith; black_fits = omega arith }
