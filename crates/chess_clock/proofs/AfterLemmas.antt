-- Going on from what a clock shows is the same as the sums over the whole list.
use Rattle.std.proofs.Common.{ℕ, ◌≡◌, ◌+◌, ◌-◌, ◌≤◌, List, ◌++◌, refl, sym, ap, ◌∙◌, arith}
use Rattle.std.proofs.lemmas.List.Sums.{sum_by-append}
use Rattle.std.proofs.lemmas.Bool.Decides.{nat_tests}
use Rattle.chess_bits.specs.declared.men.Colour.{Colour}
use Rattle.chess_bits.specs.declared.men.Colour.TheVariants.{White, Black}
use Rattle.chess_clock.specs.declared.events.ClockEvent.{ClockEvent}
use Rattle.chess_clock.specs.TimeControl.{TimeControl}
use Rattle.chess_clock.specs.Events.{completed_moves, wrong_claims, time_used, turn_length_of}
use Rattle.chess_clock.specs.SideTimes.{SideTime, second_within, given_further}
use Rattle.chess_clock.specs.ClockState.{ClockState, clock_after, on_move_after}
use Rattle.chess_clock.specs.Replay.{IsWithinTime}

-- counts and sums of joined lists
pub completed_moves-append : (side : Colour) (es fs : List ClockEvent)
    → completed_moves side (es ++ fs) ≡ completed_moves side es + completed_moves side fs
completed_moves-append side es fs = sum_by-append _ es fs

pub wrong_claims-append : (side : Colour) (es fs : List ClockEvent)
    → wrong_claims side (es ++ fs) ≡ wrong_claims side es + wrong_claims side fs
wrong_claims-append side es fs = sum_by-append _ es fs

pub time_used-append : (side : Colour) (es fs : List ClockEvent)
    → time_used side (es ++ fs) ≡ time_used side es + time_used side fs
time_used-append side es fs = sum_by-append (turn_length_of side) es fs

-- what the second period adds within n moves and then m more
second_within-more : (control : TimeControl) (to_go n m : ℕ)
    → second_within control to_go (n + m) ≡ second_within control to_go n + second_within control (to_go - n) m
second_within-more control to_go n m = grind (arith, nat_tests)

-- what is given for these moves and claims, and then for more of them
pub given_further-more : (control : TimeControl) (to_go n m c d : ℕ)
    → given_further control to_go (n + m) (c + d)
    ≡ given_further control to_go n c + given_further control (to_go - n) m d
given_further-more control to_go n m c d =
    let second = second_within-more control to_go n m in
    grind (arith, second)

-- the side on move after n turns and then m more
pub on_move_after-more : (side : Colour) (n m : ℕ)
    → on_move_after side (n + m) ≡ on_move_after (on_move_after side n) m
on_move_after-more White n m = grind (arith, nat_tests)
on_move_after-more Black n m = grind (arith, nat_tests)

-- one side's time by its counts: moves completed, wrong claims of the opponent, and milliseconds used
abbrev side_counted : TimeControl → SideTime → ℕ → ℕ → ℕ → SideTime
side_counted control time n c u = record {
  held = time.held + given_further control time.to_go n c - u;
  to_go = time.to_go - n;
}

-- where the side has not used more than it had
side_counted-more : (control : TimeControl) (time : SideTime) (n m c d u v : ℕ)
    → u ≤ time.held + given_further control time.to_go n c
    → side_counted control (side_counted control time n c u) m d v
    ≡ side_counted control time (n + m) (c + d) (u + v)
side_counted-more control time n m c d u v within =
    let given = given_further-more control time.to_go n m c d in
    let held : time.held + given_further control time.to_go n c - u + given_further control (time.to_go - n) m d - v
    ≡ time.held + given_further control time.to_go (n + m) (c + d) - (u + v) = omega arith in
    let to_go : time.to_go - n - m ≡ time.to_go - (n + m) = omega arith in
    cc

-- what is counted of a side: moves completed, wrong claims, and milliseconds used
abbrev Counts : Type 0
Counts = ℕ × ℕ × ℕ

counts : Colour → List ClockEvent → Counts
counts side es = (completed_moves side es, wrong_claims side es, time_used side es)

both : Counts → Counts → Counts
both a b = (a.0 + b.0, a.1 + b.1, a.2 + b.2)

counts-append : (side : Colour) (es fs : List ClockEvent) → counts side (es ++ fs) ≡ both (counts side es) (counts side fs)
unfolding counts both
counts-append side es fs =
    let n = completed_moves-append side es fs in
    let c = wrong_claims-append side es fs in
    let u = time_used-append side es fs in
    cc

-- a clock by the counts of both sides
counted : ClockState → Counts → Counts → ClockState
counted clock w b = record {
  control = clock.control;
  side = on_move_after clock.side (w.0 + b.0);
  since = clock.since + (w.2 + b.2);
  white = side_counted clock.control clock.white w.0 b.1 w.2;
  black = side_counted clock.control clock.black b.0 w.1 b.2;
  is_stopped = clock.is_stopped;
}

after_counted : (clock : ClockState) (es : List ClockEvent)
    → clock_after clock es ≡ counted clock (counts White es) (counts Black es)
unfolding counted counts
after_counted clock es = refl

-- where neither side has used more than it had
counted-more : (clock : ClockState) (w b x y : Counts)
    → w.2 ≤ clock.white.held + given_further clock.control clock.white.to_go w.0 b.1
    → b.2 ≤ clock.black.held + given_further clock.control clock.black.to_go b.0 w.1
    → counted (counted clock w b) x y ≡ counted clock (both w x) (both b y)
unfolding counted both
counted-more clock w b x y white_within black_within =
    let white = side_counted-more clock.control clock.white w.0 x.0 b.1 y.1 w.2 x.2 white_within in
    let black = side_counted-more clock.control clock.black b.0 y.0 w.1 x.1 b.2 y.2 black_within in
    let side = on_move_after-more clock.side (w.0 + b.0) (x.0 + y.0) in
    let turns : w.0 + x.0 + (b.0 + y.0) ≡ w.0 + b.0 + (x.0 + y.0) = omega arith in
    let since : clock.since + (w.2 + b.2) + (x.2 + y.2) ≡ clock.since + (w.2 + x.2 + (b.2 + y.2)) = omega arith in
    cc

-- The clock after these events and then more of them is the clock after all of them.
pub clock_after-append : (clock : ClockState) (es fs : List ClockEvent)
    → IsWithinTime clock es → clock_after (clock_after clock es) fs ≡ clock_after clock (es ++ fs)
unfolding counts
clock_after-append clock es fs within =
    let w = counts White es in
    let b = counts Black es in
    let x = counts White fs in
    let y = counts Black fs in
    after_counted (clock_after clock es) fs
    ∙ ap (λ c. counted c x y) (after_counted clock es)
    ∙ counted-more clock w b x y within.white_within within.black_within
    ∙ sym (ap (λ n. counted clock n (both b y)) (counts-append White es fs))
    ∙ sym (ap (λ n. counted clock (counts White (es ++ fs)) n) (counts-append Black es fs))
    ∙ sym (after_counted clock (es ++ fs))
