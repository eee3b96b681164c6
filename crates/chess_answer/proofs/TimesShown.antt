-- The times that a game shows: before the join a side has the initial time left.
use Rattle.std.proofs.Common.{ℕ, ◌≡◌, true, false, Bool, ap, ◌∙◌, refl, ◌*◌, ◌-◌}
use Rattle.std.specs.Prelude.{◌&&◌, not, if◌then◌else◌}
use Rattle.chess_bits.specs.declared.men.Colour.{Colour}
use Rattle.chess_bits.specs.declared.men.Colour.TheVariants.{White, Black}
use Rattle.chess_entry.specs.State.{GameState, seat_of, is_joined, is_over}
use Rattle.chess_entry.specs.GameTimes.{left_at}
use Rattle.chess_entry.specs.Verdict.{is_on_move}
use Rattle.chess_entry.specs.Bounds.{IsGame, IsWaiting}
use Rattle.chess_game.specs.Turn.{left_in}
use Rattle.chess_answer.specs.Reads.{time_shown}

held_waiting : (game : GameState) (side : Colour) → IsWaiting game
    → (seat_of side game).held ≡ 1000 * game.control.initial
held_waiting game White waiting = waiting.white
held_waiting game Black waiting = waiting.black

left_waiting : (game : GameState) (side : Colour) (at : ℕ) → is_joined game ≡ false → IsWaiting game
    → left_in game side at ≡ 1000 * game.control.initial
left_waiting game side at empty waiting =
    ap (λ (b : Bool). left_at (b && (is_on_move side game && not (is_over game))) (seat_of side game).held
    (at - game.moment)) empty
    ∙ held_waiting game side waiting

pub left_in-shown : (game : GameState) (side : Colour) (at : ℕ) → IsGame 20000 game
    → left_in game side at ≡ time_shown game side at
left_in-shown game side at is =
    let P : Bool → Type 0 = λ b. is_joined game ≡ b → left_in game side at ≡
    (if b then left_in game side at else 1000 * game.control.initial) in
    let choose : (b : Bool) → P b = λ b. elim b as P [
      | true ↦ λ joined. refl
      | false ↦ λ empty. left_waiting game side at empty (is.waiting empty)
    ] in
    choose (is_joined game) refl
