-- What a side has left has room in its field.
use Rattle.std.proofs.Common.{ℕ, ◌<◌, ◌≤◌, ◌+◌, ◌-◌, ◌*◌, ◌^◌, Bool, true, false, arith}
use Rattle.std.specs.Prelude.{◌&&◌, ◌||◌, if◌then◌else◌}
use Rattle.chess_bits.specs.declared.men.Colour.{Colour}
use Rattle.chess_bits.specs.declared.men.Colour.TheVariants.{White, Black}
use Rattle.chess_bits.specs.Man.{other, is_colour}
use Rattle.chess_clock.proofs.Bounds.{given_for-at_most}
use Rattle.chess_entry.specs.State.{GameState, position_of, ply_of, seat_of, is_joined, is_over}
use Rattle.chess_entry.specs.Bounds.{IsGame, IsHeldWithin, claims_most}
use Rattle.chess_entry.specs.Follow.{completed}
use Rattle.chess_entry.specs.GameTimes.{left_at}
use Rattle.chess_game.specs.Turn.{time_runs, left_in}
use Rattle.chess_game.proofs.TimeLemmas.{completed-at_most}
use Rattle.chess_answer.specs.Reads.{time_shown}

few_and_one : (n one : ℕ) → n ≤ 10000 → one ≤ 1 → n + one ≤ 10001
few_and_one n one few most = omega (arith, few, most)

at_most_one : (b : Bool) → let n : ℕ = if b then 1 else 0 in n ≤ 1
at_most_one true = omega arith
at_most_one false = omega arith

claims_few : (game : GameState) (side : Colour) → ply_of game ≤ 20000 → claims_most game side ≤ 10001
claims_few game side short =
    few_and_one (completed game.start.side side (ply_of game)) _ (completed-at_most game.start.side side (ply_of game) short)
    (at_most_one (is_colour side (position_of game).side && (game.claimed || is_over game)))

fits : (held given : ℕ) → held ≤ given → given ≤ 1972920000 → held < 2 ^ 64
fits held given most small = omega (arith, most, small)

held_by : (game : GameState) → IsGame 20000 game → (side : Colour) → IsHeldWithin game side → (seat_of side game).held < 2 ^ 64
held_by game is side within =
    fits (seat_of side game).held _ within
    (given_for-at_most game.control (completed game.start.side side (ply_of game)) (claims_most game (other side))
    is.opened.control (completed-at_most game.start.side side (ply_of game) is.short) (claims_few game (other side) is.short))

held_fits : (game : GameState) → IsGame 20000 game → (side : Colour) → (seat_of side game).held < 2 ^ 64
held_fits game is White = held_by game is White is.played.white
held_fits game is Black = held_by game is Black is.played.black

left_fits : (runs : Bool) (held turn : ℕ) → held < 2 ^ 64 → left_at runs held turn < 2 ^ 64
left_fits true held turn small = omega (arith, small)
left_fits false held turn small = small

initial_fits : (initial : ℕ) → initial ≤ 86400 → 1000 * initial < 2 ^ 64
initial_fits initial most = omega (arith, most)

shown_if : (joined : Bool) (left initial : ℕ) → left < 2 ^ 64 → initial < 2 ^ 64 →
    let n : ℕ = if joined then left else initial in n < 2 ^ 64
shown_if true left initial small few = small
shown_if false left initial small few = few

pub time_fits : (game : GameState) → IsGame 20000 game → (side : Colour) (at : ℕ) → time_shown game side at < 2 ^ 64
time_fits game is side at =
    shown_if (is_joined game) (left_in game side at) (1000 * game.control.initial)
    (left_fits (time_runs game side) (seat_of side game).held (at - game.moment) (held_fits game is side))
    (initial_fits game.control.initial is.opened.control.initial_to)
