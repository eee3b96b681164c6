-- Tests of the conditions under which a clock goes through a list of events. They compute, so that a caller with a list
-- that is written out shows the conditions by `refl`.
use Rattle.std.proofs.Common.{ℕ, ◌≡◌, Bool, true, ◌&&◌, List, [], ◌∷◌, ◌++◌, sym, ap, ◌∙◌, subst, arith, append_assoc}
use Rattle.std.specs.Prelude.{nat_lt}
use Rattle.std.proofs.lemmas.Bool.{and_parts}
use Rattle.std.proofs.lemmas.Bool.Decides.{nat_tests}
use Rattle.std.proofs.lemmas.List.{append-nil}
use Rattle.chess_bits.specs.declared.men.Colour.{Colour}
use Rattle.chess_bits.specs.Man.{is_colour}
use Rattle.chess_bits.proofs.ManLemmas.{is_colour-true}
use Rattle.chess_clock.specs.declared.events.ClockEvent.{ClockEvent}
use Rattle.chess_clock.specs.declared.events.ClockEvent.TheVariants.{Turn, WrongClaim}
use Rattle.chess_clock.specs.ClockState.{ClockState, clock_after, time_of, TimesFit}
use Rattle.chess_clock.specs.Replay.{EndsInTime, TurnsEndInTime, TimesAlwaysFit}

-- whether an event is no turn, or one of the side on move that ends before its flag falls
abbrev pub may_come : ClockState → ClockEvent → Bool
may_come clock (Turn side length) = is_colour side clock.side && nat_lt length (time_of side clock).held
may_come clock (WrongClaim side) = true

abbrev pub times_fit : ClockState → Bool
times_fit clock = nat_lt clock.white.held 4294967296 && nat_lt clock.black.held 4294967296

-- the same of each of the events that are left, after those before
abbrev pub all_may_come : ClockState → List ClockEvent → List ClockEvent → Bool
all_may_come start before [] = true
all_may_come start before (event ∷ rest) =
    may_come (clock_after start before) event && all_may_come start (before ++ event ∷ []) rest

abbrev pub all_fit : ClockState → List ClockEvent → List ClockEvent → Bool
all_fit start before [] = times_fit (clock_after start before)
all_fit start before (event ∷ rest) = times_fit (clock_after start before) && all_fit start (before ++ event ∷ []) rest

EndsInTime-from_test : (clock : ClockState) (side : Colour) (length : ℕ)
    → may_come clock (Turn side length) ≡ true → EndsInTime clock side length
EndsInTime-from_test clock side length h =
    let parts = and_parts (is_colour side clock.side) (nat_lt length (time_of side clock).held) h in
    let below : nat_lt length (time_of side clock).held ≡ true = parts.1 in
    record { on_move = is_colour-true side clock.side parts.0; in_time = grind (arith, nat_tests) }

TimesFit-from_test : (clock : ClockState) → times_fit clock ≡ true → TimesFit clock
TimesFit-from_test clock h =
    let parts = and_parts (nat_lt clock.white.held 4294967296) (nat_lt clock.black.held 4294967296) h in
    let white : nat_lt clock.white.held 4294967296 ≡ true = parts.0 in
    let black : nat_lt clock.black.held 4294967296 ≡ true = parts.1 in
    record { white_fits = grind (arith, nat_tests); black_fits = grind (arith, nat_tests) }

-- the tail and the head of equal lists
same_head : {x y : ClockEvent} {xs ys : List ClockEvent} → x ∷ xs ≡ y ∷ ys → x ≡ y
same_head h = cc

same_tail : {x y : ClockEvent} {xs ys : List ClockEvent} → x ∷ xs ≡ y ∷ ys → xs ≡ ys
same_tail h = cc

-- an event that is pushed onto those before stands at the head of those after
moved_on : (before : List ClockEvent) (event x : ClockEvent) (more : List ClockEvent)
    → event ≡ x → (before ++ event ∷ []) ++ more ≡ before ++ x ∷ more
moved_on before event x more same = append_assoc before (event ∷ []) more ∙ ap (λ y. before ++ y ∷ more) same

turns_at : (start : ClockState) (before rest : List ClockEvent) → all_may_come start before rest ≡ true
    → (more : List ClockEvent) (side : Colour) (length : ℕ) (end : List ClockEvent) → rest ≡ more ++ Turn side length ∷ end
    → EndsInTime (clock_after start (before ++ more)) side length
turns_at start before [] h [] side length end e = absurd cc
turns_at start before [] h (x ∷ more) side length end e = absurd cc
turns_at start before (event ∷ rest) h [] side length end e =
    let parts = and_parts (may_come (clock_after start before) event) (all_may_come start (before ++ event ∷ []) rest) h in
    let this = subst (λ x. may_come (clock_after start before) x ≡ true) (same_head e) parts.0 in
    subst (λ es. EndsInTime (clock_after start es) side length) (sym (append-nil before))
    (EndsInTime-from_test (clock_after start before) side length this)
turns_at start before (event ∷ rest) h (x ∷ more) side length end e =
    let parts = and_parts (may_come (clock_after start before) event) (all_may_come start (before ++ event ∷ []) rest) h in
    subst (λ es. EndsInTime (clock_after start es) side length) (moved_on before event x more (same_head e))
    (turns_at start (before ++ event ∷ []) rest parts.1 more side length end (same_tail e))

fits_at : (start : ClockState) (before rest : List ClockEvent) → all_fit start before rest ≡ true
    → (more end : List ClockEvent) → rest ≡ more ++ end → TimesFit (clock_after start (before ++ more))
fits_at start before [] h [] end e =
    subst (λ es. TimesFit (clock_after start es)) (sym (append-nil before)) (TimesFit-from_test (clock_after start before) h)
fits_at start before [] h (x ∷ more) end e = absurd cc
fits_at start before (event ∷ rest) h [] end e =
    let parts = and_parts (times_fit (clock_after start before)) (all_fit start (before ++ event ∷ []) rest) h in
    subst (λ es. TimesFit (clock_after start es)) (sym (append-nil before))
    (TimesFit-from_test (clock_after start before) parts.0)
fits_at start before (event ∷ rest) h (x ∷ more) end e =
    let parts = and_parts (times_fit (clock_after start before)) (all_fit start (before ++ event ∷ []) rest) h in
    subst (λ es. TimesFit (clock_after start es)) (moved_on before event x more (same_head e))
    (fits_at start (before ++ event ∷ []) rest parts.1 more end (same_tail e))

pub TurnsEndInTime-from_test : (start : ClockState) (events : List ClockEvent)
    → all_may_come start [] events ≡ true → TurnsEndInTime start events
TurnsEndInTime-from_test start events h before side length rest e = turns_at start [] events h before side length rest e

pub TimesAlwaysFit-from_test : (start : ClockState) (events : List ClockEvent)
    → all_fit start [] events ≡ true → TimesAlwaysFit start events
TimesAlwaysFit-from_test start events h before rest e = fits_at start [] events h before rest e
