-- What `show` writes.
use Rattle.std.specs.Prelude.{ℕ, zero, suc, ◌≡◌, List, [], ◌++◌, Option, Some, slice_get}
use Rattle.std.specs.Io.KnownBytes.{Appends}
use Rattle.chess_entry.specs.State.{GameState}
use Rattle.chess_answer.specs.Reads.{IsPgnOfGame}

-- these games, and then one more
pub record AreOneMore (First : List ℕ → Type 0) (games : List GameState) (n : ℕ) (text : List ℕ) : Type 0 where
  pub front : List ℕ
  pub first : First front
  pub game : GameState
  pub place : slice_get games n ≡ Some game
  pub last : List ℕ
  pub next : IsPgnOfGame game last
  pub whole : text ≡ front ++ last

-- the PGNs of the first n games, one after the other, each of which ends with an empty line
abbrev pub AreGamesInFile : List GameState → ℕ → List ℕ → Type 0
AreGamesInFile games zero text = text ≡ []
AreGamesInFile games (suc n) text = AreOneMore (AreGamesInFile games n) games n text

-- what is known of an output grows by a game
pub record WritesGame (old new : Option (List ℕ)) (game : GameState) : Type 0 where
  pub text : List ℕ
  pub is_game : IsPgnOfGame game text
  pub written : Appends old new text

-- and by the first n games
pub record WritesGames (old new : Option (List ℕ)) (games : List GameState) (n : ℕ) : Type 0 where
  pub text : List ℕ
  pub are_games : AreGamesInFile games n text
  pub written : Appends old new text
