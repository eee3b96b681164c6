-- The times that sides hold, and the moves that they have completed, from turn to turn.
use Rattle.std.proofs.Common.{ℕ, ◌≡◌, ◌+◌, ◌-◌, ◌*◌, ◌≤◌, Option, Some, None, refl, sym, arith}
use Rattle.std.proofs.lemmas.Bool.Decides.{nat_tests}
use Rattle.chess_bits.specs.declared.men.Colour.{Colour}
use Rattle.chess_bits.specs.declared.men.Colour.TheVariants.{White, Black}
use Rattle.chess_bits.specs.Man.{other}
use Rattle.chess_clock.specs.TimeControl.{TimeControl, moves_to_go}
use Rattle.chess_clock.specs.Held.{given_for}
use Rattle.chess_clock.specs.SideTimes.{second_within, given_further}
use Rattle.chess_clock.specs.ClockState.{on_move_after}
use Rattle.chess_entry.specs.Follow.{completed, second_begun, held_after_turn}
use Rattle.chess_entry.proofs.HeldLemmas.{second_period-next, completed-waits}

pub given_for-claims : (control : TimeControl) (n a b : ℕ) → a ≤ b → given_for control n a ≤ given_for control n b
given_for-claims control n a b h = omega arith

-- a side that holds no more than it was given holds no more after its turn, with a move more
pub held_after_turn-at_most : (control : TimeControl) (held n a length : ℕ) → held ≤ given_for control n a
    → held_after_turn control held (n + 1) length ≤ given_for control (n + 1) a
held_after_turn-at_most control held n a length most =
    let second = second_period-next control.period n in
    let more : 1000 * control.increment * (n + 1) ≡ 1000 * control.increment * n + 1000 * control.increment = omega arith in
    omega arith

pub with_penalty-at_most : (control : TimeControl) (held n a : ℕ) → held ≤ given_for control n a
    → held + 120000 ≤ given_for control n (a + 1)
with_penalty-at_most control held n a most = omega arith

-- the second period begins with the last move before it
second_within-begun : (control : TimeControl) (n : ℕ)
    → second_within control (moves_to_go control.period n) 1 ≡ second_begun control.period (n + 1)
second_within-begun control n = by_period control.period
  where
    by_period : (period : Option (ℕ × ℕ))
        → second_within (record control { period = period }) (moves_to_go period n) 1 ≡ second_begun period (n + 1)
    by_period None = refl
    by_period (Some period) = grind (arith, nat_tests)

-- what a clock gives with a completed move is what the turn's end gives
pub given_further-turn : (control : TimeControl) (held n length : ℕ)
    → held + given_further control (moves_to_go control.period n) 1 0 - length
    ≡ held_after_turn control held (n + 1) length
given_further-turn control held n length =
    let second = second_within-begun control n in
    omega arith

pub moves_to_go-next : (period : Option (ℕ × ℕ)) (n : ℕ) → moves_to_go period n - 1 ≡ moves_to_go period (n + 1)
moves_to_go-next None n = refl
moves_to_go-next (Some period) n = omega arith

-- ---- the moves completed

-- The side that is not on move completes none.
pub completed-other : (first side : Colour) (n : ℕ) → on_move_after first n ≡ other side
    → completed first side (n + 1) ≡ completed first side n
completed-other first White n on = completed-waits first Black n (sym on)
completed-other first Black n on = completed-waits first White n (sym on)

pub completed-at_most : (first side : Colour) (n : ℕ) → n ≤ 20000 → completed first side n ≤ 10000
completed-at_most White White n h = omega arith
completed-at_most White Black n h = omega arith
completed-at_most Black White n h = omega arith
completed-at_most Black Black n h = omega arith
