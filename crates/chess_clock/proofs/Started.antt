-- The clock of a game, by the sums over all that has happened in it.
use Rattle.std.proofs.Common.{ℕ, ◌≡◌, ◌+◌, ◌-◌, ◌*◌, ◌≤◌, List, ◌++◌, Option, Some, None, refl, sym, ap, ◌∙◌, arith}
use Rattle.std.specs.Option.{ForSome}
use Rattle.std.proofs.lemmas.Bool.Decides.{nat_tests}
use Rattle.chess_bits.specs.declared.men.Colour.{Colour}
use Rattle.chess_bits.specs.declared.men.Colour.TheVariants.{White, Black}
use Rattle.chess_clock.specs.declared.events.ClockEvent.{ClockEvent}
use Rattle.chess_clock.specs.TimeControl.{TimeControl, IsTimeControl, IsPeriod, moves_to_go, second_period, time_control}
use Rattle.chess_clock.specs.Events.{completed_moves, wrong_claims, time_used}
use Rattle.chess_clock.specs.Held.{given_for}
use Rattle.chess_clock.specs.SideTimes.{second_within, given_further}
use Rattle.chess_clock.specs.ClockState.{clock_after, started, clock_of}
use Rattle.chess_clock.specs.Replay.{IsWithinTime}
use Rattle.chess_clock.proofs.AfterLemmas.{clock_after-append}

-- from the start of the game on, the second period begins with the last move before it
second_within-from_start : (initial increment : ℕ) (period : Option (ℕ × ℕ)) (n : ℕ) → ForSome period IsPeriod
    → second_within (time_control initial increment period) (moves_to_go period 0) n ≡ second_period period n
second_within-from_start initial increment None n ranges = refl
second_within-from_start initial increment (Some period) n ranges =
    let moves_from : 1 ≤ period.0 = (ranges period refl).moves_from in
    grind (arith, nat_tests)

moves_to_go-from_start : (period : Option (ℕ × ℕ)) (n : ℕ) → moves_to_go period 0 - n ≡ moves_to_go period n
moves_to_go-from_start None n = omega arith
moves_to_go-from_start (Some period) n = omega arith

-- what a side is given from the start of the game on
pub given_further-from_start : (control : TimeControl) (n c : ℕ) → IsTimeControl control
    → 1000 * control.initial + given_further control (moves_to_go control.period 0) n c ≡ given_for control n c
given_further-from_start control n c ranges =
    let second = second_within-from_start control.initial control.increment control.period n ranges.period_in_range in
    omega arith

-- A clock that started with the game shows, after these events, the sums over them.
pub after_started : (control : TimeControl) (side : Colour) (at : ℕ) (events : List ClockEvent) → IsTimeControl control
    → clock_after (started control side at) events ≡ clock_of control side at events
after_started control side at events ranges =
    let n = completed_moves White events in
    let m = completed_moves Black events in
    let white_given = given_further-from_start control n (wrong_claims Black events) ranges in
    let black_given = given_further-from_start control m (wrong_claims White events) ranges in
    let white = ap (λ given. given - time_used White events) white_given in
    let black = ap (λ given. given - time_used Black events) black_given in
    let white_to_go = moves_to_go-from_start control.period n in
    let black_to_go = moves_to_go-from_start control.period m in
    cc

-- One event more, or several: what the clock of a game shows goes on as the sums do.
pub clock_of-append : (control : TimeControl) (side : Colour) (at : ℕ) (es fs : List ClockEvent) → IsTimeControl control
    → IsWithinTime (started control side at) es
    → clock_after (clock_of control side at es) fs ≡ clock_of control side at (es ++ fs)
clock_of-append control side at es fs ranges within =
    ap (λ c. clock_after c fs) (sym (after_started control side at es ranges))
    ∙ clock_after-append (started control side at) es fs within
    ∙ after_started control side at (es ++ fs) ranges
