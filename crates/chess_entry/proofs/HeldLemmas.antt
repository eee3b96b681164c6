-- What a turn and a wrong claim change in the times held.
use Rattle.std.specs.Prelude.{ℕ, ◌≡◌, ◌+◌, ◌-◌, ◌*◌, ◌<◌, ◌≤◌, List, [], ◌∷◌, ◌++◌, length, Option, Some, None}
use Rattle.std.proofs.Common.{arith, ap, sym, ◌∙◌, refl}
use Rattle.std.proofs.lemmas.Bool.Decides.{nat_tests}
use Rattle.chess_bits.specs.declared.men.Colour.{Colour}
use Rattle.chess_bits.specs.declared.men.Colour.TheVariants.{White, Black}
use Rattle.chess_bits.specs.Man.{other}
use Rattle.chess_board.specs.declared.moves.Move.{Move}
use Rattle.chess_board.specs.Position.{Position}
use Rattle.chess_board.specs.Next.{next}
use Rattle.chess_clock.specs.declared.events.ClockEvent.{ClockEvent}
use Rattle.chess_clock.specs.declared.events.ClockEvent.TheVariants as clock
use Rattle.chess_clock.specs.TimeControl.{TimeControl, second_period}
use Rattle.chess_clock.specs.Events.{completed_moves, wrong_claims, time_used}
use Rattle.chess_clock.specs.Held.{given_for, given, held}
use Rattle.chess_clock.specs.ClockState.{on_move_after}
use Rattle.chess_clock.proofs.AfterLemmas.{completed_moves-append, wrong_claims-append, time_used-append}
use Rattle.chess_entry.specs.State.{position_after}
use Rattle.chess_entry.specs.Follow.{completed, second_begun, held_after_turn}

-- ---- who is on move

on_move-next : (side : Colour) (n : ℕ) → on_move_after (other side) n ≡ on_move_after side (n + 1)
on_move-next White n = grind (arith, nat_tests)
on_move-next Black n = grind (arith, nat_tests)

-- the players alternate (FIDE article 1.2)
pub side-after : (start : Position) (moves : List Move) →
    (position_after start moves).side ≡ on_move_after start.side (length moves)
side-after start [] = refl
side-after start (m ∷ moves) =
    let more : length moves + 1 ≡ length (m ∷ moves) = omega arith in
    side-after (next start m) moves ∙ on_move-next start.side (length moves) ∙ ap (on_move_after start.side) more

-- ---- completed moves

completed-mover : (first : Colour) (plies : ℕ) →
    completed first (on_move_after first plies) (plies + 1) ≡ completed first (on_move_after first plies) plies + 1
completed-mover White plies = grind (arith, nat_tests)
completed-mover Black plies = grind (arith, nat_tests)

completed-waiter : (first : Colour) (plies : ℕ) →
    completed first (other (on_move_after first plies)) (plies + 1) ≡ completed first (other (on_move_after first plies)) plies
completed-waiter White plies = grind (arith, nat_tests)
completed-waiter Black plies = grind (arith, nat_tests)

-- ---- what is given

pub second_period-next : (period : Option (ℕ × ℕ)) (moves : ℕ) →
    second_period period (moves + 1) ≡ second_period period moves + second_begun period (moves + 1)
second_period-next None moves = refl
second_period-next (Some period) moves = grind (arith, nat_tests)

given_for-turn : (control : TimeControl) (moves wrong : ℕ) →
    given_for control (moves + 1) wrong
    ≡ given_for control moves wrong + 1000 * control.increment + second_begun control.period (moves + 1)
given_for-turn control moves wrong =
    let second = second_period-next control.period moves in
    omega arith

given_for-claim : (control : TimeControl) (moves wrong : ℕ) →
    given_for control moves (wrong + 1) ≡ given_for control moves wrong + 120000
given_for-claim control moves wrong = omega arith

-- ---- what is counted with a turn and with a wrong claim

-- Each side has completed its part of so many moves, and has not used more than it was given.
pub record IsTimed (first : Colour) (control : TimeControl) (events : List ClockEvent) (plies : ℕ) (side : Colour) : Type 0 where
  pub moves : completed_moves side events ≡ completed first side plies
  pub within : time_used side events ≤ given side control events

pub IsTimed-start : (first : Colour) (control : TimeControl) (side : Colour) → IsTimed first control [] 0 side
IsTimed-start White control White = record { moves = refl; within = omega arith }
IsTimed-start White control Black = record { moves = refl; within = omega arith }
IsTimed-start Black control White = record { moves = refl; within = omega arith }
IsTimed-start Black control Black = record { moves = refl; within = omega arith }

-- a turn
own_moves : (side : Colour) (events : List ClockEvent) (length : ℕ) →
    completed_moves side (events ++ clock.Turn side length ∷ []) ≡ completed_moves side events + 1
own_moves White events length = completed_moves-append White events (clock.Turn White length ∷ [])
own_moves Black events length = completed_moves-append Black events (clock.Turn Black length ∷ [])

other_moves : (side : Colour) (events : List ClockEvent) (length : ℕ) →
    completed_moves (other side) (events ++ clock.Turn side length ∷ []) ≡ completed_moves (other side) events
other_moves White events length =
    let more = completed_moves-append Black events (clock.Turn White length ∷ []) in omega arith
other_moves Black events length =
    let more = completed_moves-append White events (clock.Turn Black length ∷ []) in omega arith

turn_claims : (side mover : Colour) (events : List ClockEvent) (length : ℕ) →
    wrong_claims side (events ++ clock.Turn mover length ∷ []) ≡ wrong_claims side events
turn_claims side mover events length =
    let more = wrong_claims-append side events (clock.Turn mover length ∷ []) in omega arith

own_used : (side : Colour) (events : List ClockEvent) (length : ℕ) →
    time_used side (events ++ clock.Turn side length ∷ []) ≡ time_used side events + length
own_used White events length =
    let more = time_used-append White events (clock.Turn White length ∷ []) in omega arith
own_used Black events length =
    let more = time_used-append Black events (clock.Turn Black length ∷ []) in omega arith

other_used : (side : Colour) (events : List ClockEvent) (length : ℕ) →
    time_used (other side) (events ++ clock.Turn side length ∷ []) ≡ time_used (other side) events
other_used White events length =
    let more = time_used-append Black events (clock.Turn White length ∷ []) in omega arith
other_used Black events length =
    let more = time_used-append White events (clock.Turn Black length ∷ []) in omega arith

given-own_turn : (side : Colour) (control : TimeControl) (events : List ClockEvent) (length : ℕ) →
    given side control (events ++ clock.Turn side length ∷ [])
    ≡ given side control events + 1000 * control.increment
    + second_begun control.period (completed_moves side events + 1)
given-own_turn side control events length =
    ap (λ (n : ℕ). given_for control n (wrong_claims (other side) (events ++ clock.Turn side length ∷ [])))
    (own_moves side events length)
    ∙ ap (λ (n : ℕ). given_for control (completed_moves side events + 1) n) (turn_claims (other side) side events length)
    ∙ given_for-turn control (completed_moves side events) (wrong_claims (other side) events)

given-other_turn : (side : Colour) (control : TimeControl) (events : List ClockEvent) (length : ℕ) →
    given (other side) control (events ++ clock.Turn side length ∷ []) ≡ given (other side) control events
given-other_turn side control events length =
    ap (λ (n : ℕ). given_for control n (wrong_claims (other (other side)) (events ++ clock.Turn side length ∷ [])))
    (other_moves side events length)
    ∙ ap (λ (n : ℕ). given_for control (completed_moves (other side) events) n)
    (turn_claims (other (other side)) side events length)

-- a wrong claim
claim_moves : (side by : Colour) (events : List ClockEvent) →
    completed_moves side (events ++ clock.WrongClaim by ∷ []) ≡ completed_moves side events
claim_moves side by events =
    let more = completed_moves-append side events (clock.WrongClaim by ∷ []) in omega arith

claim_used : (side by : Colour) (events : List ClockEvent) →
    time_used side (events ++ clock.WrongClaim by ∷ []) ≡ time_used side events
claim_used side by events =
    let more = time_used-append side events (clock.WrongClaim by ∷ []) in omega arith

claim_claims : (by : Colour) (events : List ClockEvent) →
    wrong_claims by (events ++ clock.WrongClaim by ∷ []) ≡ wrong_claims by events + 1
claim_claims White events = wrong_claims-append White events (clock.WrongClaim White ∷ [])
claim_claims Black events = wrong_claims-append Black events (clock.WrongClaim Black ∷ [])

claim_others : (by : Colour) (events : List ClockEvent) →
    wrong_claims (other by) (events ++ clock.WrongClaim by ∷ []) ≡ wrong_claims (other by) events
claim_others White events =
    let more = wrong_claims-append Black events (clock.WrongClaim White ∷ []) in omega arith
claim_others Black events =
    let more = wrong_claims-append White events (clock.WrongClaim Black ∷ []) in omega arith

given-own_claim : (by : Colour) (control : TimeControl) (events : List ClockEvent) →
    given by control (events ++ clock.WrongClaim by ∷ []) ≡ given by control events
given-own_claim by control events =
    ap (λ (n : ℕ). given_for control n (wrong_claims (other by) (events ++ clock.WrongClaim by ∷ [])))
    (claim_moves by by events)
    ∙ ap (λ (n : ℕ). given_for control (completed_moves by events) n) (claim_others by events)

given-others_claim : (by side : Colour) (control : TimeControl) (events : List ClockEvent) → other side ≡ by →
    given side control (events ++ clock.WrongClaim by ∷ []) ≡ given side control events + 120000
given-others_claim by side control events opponent =
    ap (λ (n : ℕ). given_for control n (wrong_claims (other side) (events ++ clock.WrongClaim by ∷ [])))
    (claim_moves side by events)
    ∙ ap (λ (c : Colour). given_for control (completed_moves side events)
    (wrong_claims c (events ++ clock.WrongClaim by ∷ []))) opponent
    ∙ ap (λ (n : ℕ). given_for control (completed_moves side events) n) (claim_claims by events)
    ∙ given_for-claim control (completed_moves side events) (wrong_claims by events)
    ∙ ap (λ (c : Colour). given_for control (completed_moves side events) (wrong_claims c events) + 120000) (sym opponent)

-- ---- what a side holds

turn_held : (given given_after used used_after increment second length : ℕ) →
    given_after ≡ given + increment + second → used_after ≡ used + length → used ≤ given →
    given_after - used_after ≡ given - used + increment + second - length
turn_held given given_after used used_after increment second length g u within = omega arith

claim_held : (given given_after used used_after : ℕ) → given_after ≡ given + 120000 → used_after ≡ used → used ≤ given →
    given_after - used_after ≡ given - used + 120000
claim_held given given_after used used_after g u within = omega arith

same_held : (given given_after used used_after : ℕ) → given_after ≡ given → used_after ≡ used →
    given_after - used_after ≡ given - used
same_held given given_after used used_after g u = cc

pub completed-next : (first mover : Colour) (plies : ℕ) → mover ≡ on_move_after first plies →
    completed first mover (plies + 1) ≡ completed first mover plies + 1
completed-next first mover plies on_move =
    ap (λ (side : Colour). completed first side (plies + 1)) on_move
    ∙ completed-mover first plies
    ∙ ap (λ (side : Colour). completed first side plies + 1) (sym on_move)

pub completed-waits : (first mover : Colour) (plies : ℕ) → mover ≡ on_move_after first plies →
    completed first (other mover) (plies + 1) ≡ completed first (other mover) plies
completed-waits first mover plies on_move =
    ap (λ (side : Colour). completed first (other side) (plies + 1)) on_move
    ∙ completed-waiter first plies
    ∙ ap (λ (side : Colour). completed first (other side) plies) (sym on_move)

pub held-own_turn : (first mover : Colour) (control : TimeControl) (events : List ClockEvent) (plies length : ℕ) →
    IsTimed first control events plies mover → mover ≡ on_move_after first plies →
    held mover control (events ++ clock.Turn mover length ∷ [])
    ≡ held_after_turn control (held mover control events) (completed first mover (plies + 1)) length
held-own_turn first mover control events plies length timed on_move =
    let moves : completed_moves mover events + 1 ≡ completed first mover (plies + 1) =
    ap (λ (n : ℕ). n + 1) timed.moves ∙ sym (completed-next first mover plies on_move) in
    turn_held (given mover control events) (given mover control (events ++ clock.Turn mover length ∷ []))
    (time_used mover events) (time_used mover (events ++ clock.Turn mover length ∷ []))
    (1000 * control.increment) (second_begun control.period (completed_moves mover events + 1)) length
    (given-own_turn mover control events length) (own_used mover events length) timed.within
    ∙ ap (λ (n : ℕ). held_after_turn control (held mover control events) n length) moves

pub held-others_turn : (mover : Colour) (control : TimeControl) (events : List ClockEvent) (length : ℕ) →
    held (other mover) control (events ++ clock.Turn mover length ∷ []) ≡ held (other mover) control events
held-others_turn mover control events length =
    same_held (given (other mover) control events) (given (other mover) control (events ++ clock.Turn mover length ∷ []))
    (time_used (other mover) events) (time_used (other mover) (events ++ clock.Turn mover length ∷ []))
    (given-other_turn mover control events length) (other_used mover events length)

pub held-own_claim : (by : Colour) (control : TimeControl) (events : List ClockEvent) →
    held by control (events ++ clock.WrongClaim by ∷ []) ≡ held by control events
held-own_claim by control events =
    same_held (given by control events) (given by control (events ++ clock.WrongClaim by ∷ []))
    (time_used by events) (time_used by (events ++ clock.WrongClaim by ∷ []))
    (given-own_claim by control events) (claim_used by by events)

pub held-others_claim : (by side : Colour) (control : TimeControl) (events : List ClockEvent) → other side ≡ by →
    time_used side events ≤ given side control events →
    held side control (events ++ clock.WrongClaim by ∷ []) ≡ held side control events + 120000
held-others_claim by side control events opponent within =
    claim_held (given side control events) (given side control (events ++ clock.WrongClaim by ∷ []))
    (time_used side events) (time_used side (events ++ clock.WrongClaim by ∷ []))
    (given-others_claim by side control events opponent) (claim_used side by events) within

-- ---- the counts go on

turn_within : (given given_after used used_after more length : ℕ) → given_after ≡ given + more → used_after ≡ used + length →
    length < given - used → used_after ≤ given_after
turn_within given given_after used used_after more length g u up = omega arith

same_within : (given given_after used used_after more : ℕ) → given_after ≡ given + more → used_after ≡ used →
    used ≤ given → used_after ≤ given_after
same_within given given_after used used_after more g u within = omega arith

add_zero : (given given_after : ℕ) → given_after ≡ given → given_after ≡ given + 0
add_zero given given_after e = omega arith

regroup : (a b c d : ℕ) → a ≡ b + c + d → a ≡ b + (c + d)
regroup a b c d e = omega arith

IsTimed-own_turn : (first mover : Colour) (control : TimeControl) (events : List ClockEvent) (plies length : ℕ) →
    IsTimed first control events plies mover → mover ≡ on_move_after first plies → length < held mover control events →
    IsTimed first control (events ++ clock.Turn mover length ∷ []) (plies + 1) mover
IsTimed-own_turn first mover control events plies length timed on_move up =
    let second = second_begun control.period (completed_moves mover events + 1) in
    record {
      moves = own_moves mover events length ∙ ap (λ (n : ℕ). n + 1) timed.moves
          ∙ sym (completed-next first mover plies on_move);
      within = turn_within (given mover control events) (given mover control (events ++ clock.Turn mover length ∷ []))
          (time_used mover events) (time_used mover (events ++ clock.Turn mover length ∷ []))
          (1000 * control.increment + second) length
          (regroup _ _ _ _ (given-own_turn mover control events length)) (own_used mover events length) up;
    }

IsTimed-others_turn : (first mover : Colour) (control : TimeControl) (events : List ClockEvent) (plies length : ℕ) →
    IsTimed first control events plies (other mover) → mover ≡ on_move_after first plies →
    IsTimed first control (events ++ clock.Turn mover length ∷ []) (plies + 1) (other mover)
IsTimed-others_turn first mover control events plies length timed on_move = record {
  moves = other_moves mover events length ∙ timed.moves ∙ sym (completed-waits first mover plies on_move);
  within = same_within (given (other mover) control events)
      (given (other mover) control (events ++ clock.Turn mover length ∷ []))
      (time_used (other mover) events) (time_used (other mover) (events ++ clock.Turn mover length ∷ [])) 0
      (add_zero _ _ (given-other_turn mover control events length)) (other_used mover events length) timed.within;
}

-- both sides'
abbrev pub AreTimed : Colour → TimeControl → List ClockEvent → ℕ → Type 0
AreTimed first control events plies = (side : Colour) → IsTimed first control events plies side

pub AreTimed-turn : (first mover : Colour) (control : TimeControl) (events : List ClockEvent) (plies length : ℕ) →
    AreTimed first control events plies → mover ≡ on_move_after first plies → length < held mover control events →
    AreTimed first control (events ++ clock.Turn mover length ∷ []) (plies + 1)
AreTimed-turn first White control events plies length timed on_move up White =
    IsTimed-own_turn first White control events plies length (timed White) on_move up
AreTimed-turn first White control events plies length timed on_move up Black =
    IsTimed-others_turn first White control events plies length (timed Black) on_move
AreTimed-turn first Black control events plies length timed on_move up White =
    IsTimed-others_turn first Black control events plies length (timed White) on_move
AreTimed-turn first Black control events plies length timed on_move up Black =
    IsTimed-own_turn first Black control events plies length (timed Black) on_move up

IsTimed-own_claim : (first by : Colour) (control : TimeControl) (events : List ClockEvent) (plies : ℕ) →
    IsTimed first control events plies by → IsTimed first control (events ++ clock.WrongClaim by ∷ []) plies by
IsTimed-own_claim first by control events plies timed = record {
  moves = claim_moves by by events ∙ timed.moves;
  within = same_within (given by control events) (given by control (events ++ clock.WrongClaim by ∷ []))
      (time_used by events) (time_used by (events ++ clock.WrongClaim by ∷ [])) 0
      (add_zero _ _ (given-own_claim by control events)) (claim_used by by events) timed.within;
}

IsTimed-others_claim : (first by side : Colour) (control : TimeControl) (events : List ClockEvent) (plies : ℕ) →
    other side ≡ by → IsTimed first control events plies side →
    IsTimed first control (events ++ clock.WrongClaim by ∷ []) plies side
IsTimed-others_claim first by side control events plies opponent timed = record {
  moves = claim_moves side by events ∙ timed.moves;
  within = same_within (given side control events) (given side control (events ++ clock.WrongClaim by ∷ []))
      (time_used side events) (time_used side (events ++ clock.WrongClaim by ∷ [])) 120000
      (given-others_claim by side control events opponent) (claim_used side by events) timed.within;
}

pub AreTimed-claim : (first by : Colour) (control : TimeControl) (events : List ClockEvent) (plies : ℕ) →
    AreTimed first control events plies → AreTimed first control (events ++ clock.WrongClaim by ∷ []) plies
AreTimed-claim first White control events plies timed White =
    IsTimed-own_claim first White control events plies (timed White)
AreTimed-claim first White control events plies timed Black =
    IsTimed-others_claim first White Black control events plies refl (timed Black)
AreTimed-claim first Black control events plies timed White =
    IsTimed-others_claim first Black White control events plies refl (timed White)
AreTimed-claim first Black control events plies timed Black =
    IsTimed-own_claim first Black control events plies (timed Black)
