-- A game after a move: its position, and its ending.
use Rattle.std.specs.Prelude.{ℕ, ◌≡◌, false, [], ◌∷◌, ◌++◌, Option, Some, None}
use Rattle.std.proofs.Common.{refl, ◌∙◌}
use Rattle.chess_board.specs.declared.moves.Move.{Move}
use Rattle.chess_board.specs.Next.{next}
use Rattle.chess_end.specs.declared.ending.Ending.{Ending}
use Rattle.chess_entry.specs.State.{GameState, position_of, is_over}
use Rattle.chess_entry.specs.Outcome.{ending_after, ending_with}
use Rattle.chess_entry.specs.Follow.{ended_if, turn_ended, moved}
use Rattle.chess_entry.proofs.InPlay.{none-not_some}
use Rattle.chess_game.proofs.LineLemmas.{position_after-push}

position-ended_if : (game : GameState) (at : ℕ) (by : Option Ending) →
    position_of (ended_if game at by) ≡ position_of game
position-ended_if game at None = refl
position-ended_if game at (Some by) = refl

pub position-moved : (game : GameState) (at : ℕ) (m : Move) →
    position_of (moved game at m) ≡ next (position_of game) m
position-moved game at m =
    position-ended_if (turn_ended game at m) at (ending_after game.start (game.moves ++ m ∷ []))
    ∙ position_after-push game.start game.moves m

ending-ended_if : (game : GameState) (at : ℕ) (by : Option Ending) → is_over game ≡ false →
    (ended_if game at by).ending ≡ by
ending-ended_if game at None on = none-not_some game.ending on
ending-ended_if game at (Some by) on = refl

pub ending-moved : (game : GameState) (at : ℕ) (m : Move) → is_over game ≡ false →
    (moved game at m).ending ≡ ending_with game.start game.moves (Some m)
ending-moved game at m on =
    ending-ended_if (turn_ended game at m) at (ending_after game.start (game.moves ++ m ∷ [])) on
