-- A side whose turns end before its flag falls has not used more time than it had.
use Rattle.std.proofs.Common.{◌≡◌, ◌+◌, ◌-◌, ◌≤◌, List, [], ◌∷◌, ◌++◌, refl, sym, ap, ◌∙◌, subst, arith, append_assoc}
use Rattle.std.specs.Prelude.{⊤}
use Rattle.std.proofs.lemmas.List.{append-nil}
use Rattle.chess_bits.specs.declared.men.Colour.{Colour}
use Rattle.chess_bits.specs.declared.men.Colour.TheVariants.{White, Black}
use Rattle.chess_bits.specs.Man.{other}
use Rattle.chess_clock.specs.declared.events.ClockEvent.{ClockEvent}
use Rattle.chess_clock.specs.declared.events.ClockEvent.TheVariants.{Turn, WrongClaim}
use Rattle.chess_clock.specs.Events.{completed_moves, wrong_claims}
use Rattle.chess_clock.specs.SideTimes.{given_further}
use Rattle.chess_clock.specs.ClockState.{ClockState, clock_after, time_of, given_within}
use Rattle.chess_clock.specs.Replay.{EndsInTime, IsWithinTime, TurnsEndInTime}
use Rattle.chess_clock.proofs.AfterLemmas.{completed_moves-append, wrong_claims-append, time_used-append, given_further-more}

-- what an event may do: a turn is of the side on move, and ends before its flag falls
abbrev pub MayCome : ClockState → ClockEvent → Type 0
MayCome clock (Turn side length) = EndsInTime clock side length
MayCome clock (WrongClaim side) = ⊤

-- what a side is given grows with each event
given_within-more : (side : Colour) (clock : ClockState) (es fs : List ClockEvent)
    → given_within side clock es ≤ given_within side clock (es ++ fs)
given_within-more side clock es fs =
    let to_go = (time_of side clock).to_go in
    let moves = completed_moves-append side es fs in
    let claims = wrong_claims-append (other side) es fs in
    let n = completed_moves side es in
    let m = completed_moves side fs in
    let c = wrong_claims (other side) es in
    let d = wrong_claims (other side) fs in
    let given : given_within side clock (es ++ fs) ≡ given_further clock.control to_go n c
    + given_further clock.control (to_go - n) m d
    = ap (λ k. given_further clock.control to_go k (wrong_claims (other side) (es ++ fs))) moves
    ∙ ap (given_further clock.control to_go (n + m)) claims
    ∙ given_further-more clock.control to_go n m c d
    in
    omega (arith, given)

-- one event more
pub IsWithinTime-push : (clock : ClockState) (es : List ClockEvent) (event : ClockEvent)
    → IsWithinTime clock es → MayCome (clock_after clock es) event → IsWithinTime clock (es ++ event ∷ [])
IsWithinTime-push clock es (Turn White length) within may_come =
    let u = time_used-append White es (Turn White length ∷ []) in
    let v = time_used-append Black es (Turn White length ∷ []) in
    let g = given_within-more White clock es (Turn White length ∷ []) in
    let h = given_within-more Black clock es (Turn White length ∷ []) in
    record { white_within = omega (arith, may_come.in_time); black_within = omega (arith, within.black_within) }
IsWithinTime-push clock es (Turn Black length) within may_come =
    let u = time_used-append White es (Turn Black length ∷ []) in
    let v = time_used-append Black es (Turn Black length ∷ []) in
    let g = given_within-more White clock es (Turn Black length ∷ []) in
    let h = given_within-more Black clock es (Turn Black length ∷ []) in
    record { white_within = omega (arith, within.white_within); black_within = omega (arith, may_come.in_time) }
IsWithinTime-push clock es (WrongClaim side) within may_come =
    let u = time_used-append White es (WrongClaim side ∷ []) in
    let v = time_used-append Black es (WrongClaim side ∷ []) in
    let g = given_within-more White clock es (WrongClaim side ∷ []) in
    let h = given_within-more Black clock es (WrongClaim side ∷ []) in
    record { white_within = omega (arith, within.white_within); black_within = omega (arith, within.black_within) }

-- before any event nothing was used
pub IsWithinTime-none : (clock : ClockState) → IsWithinTime clock []
IsWithinTime-none clock = record { white_within = omega arith; black_within = omega arith }

-- the event that comes after others of such a list
pub may_come_at : (clock : ClockState) (before : List ClockEvent) (event : ClockEvent) (rest : List ClockEvent)
    → TurnsEndInTime clock (before ++ event ∷ rest) → MayCome (clock_after clock before) event
may_come_at clock before (Turn side length) rest in_time = in_time before side length rest refl
may_come_at clock before (WrongClaim side) rest in_time = tt

within_along : (clock : ClockState) (before rest : List ClockEvent)
    → TurnsEndInTime clock (before ++ rest) → IsWithinTime clock before → IsWithinTime clock (before ++ rest)
within_along clock before [] in_time within = subst (IsWithinTime clock) (sym (append-nil before)) within
within_along clock before (event ∷ rest) in_time within =
    let pushed = before ++ event ∷ [] in
    let step = IsWithinTime-push clock before event within (may_come_at clock before event rest in_time) in
    let same : pushed ++ rest ≡ before ++ event ∷ rest = append_assoc before (event ∷ []) rest in
    let later = subst (TurnsEndInTime clock) (sym same) in_time in
    subst (IsWithinTime clock) same (within_along clock pushed rest later step)

-- all events of such a list
pub IsWithinTime-from_turns : (clock : ClockState) (events : List ClockEvent)
    → TurnsEndInTime clock events → IsWithinTime clock events
IsWithinTime-from_turns clock events in_time = within_along clock [] events in_time (IsWithinTime-none clock)
