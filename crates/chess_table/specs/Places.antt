-- Games under their numbers, and where a game stands among those of a table.
use Rattle.std.specs.Prelude.{ℕ, ◌≡◌, ◌<◌, List, length, slice_index_or}
use Rattle.chess_board.specs.Legal.{EachOf}
use Rattle.chess_entry.specs.State.{GameState}

-- Each game stands under its number.
abbrev pub AreNumbered : List (ℕ × GameState) → Type 0
AreNumbered entries = EachOf (λ e. e.0 ≡ e.1.number) entries

-- The game at this place has the number.
pub record IsPlaceOf (games : List GameState) (number place : ℕ) : Type 0 where
  pub within : place < length games
  pub numbered : (d : GameState) → (slice_index_or games place d).number ≡ number
