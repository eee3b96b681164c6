-- A game's part among the records of a snapshot.
use Rattle.std.specs.Prelude.{ℕ, ◌≡◌, ◌≤◌, ◌+◌, List, [], ◌∷◌, ◌++◌, length, map, take}
use Rattle.std.specs.List.{flat_map}
use Rattle.chess_board.specs.declared.moves.Move.{Move}
use Rattle.chess_board.specs.Legal.{EachOf}
use Rattle.rec_codec.specs.declared.record.Head.{Head}
use Rattle.rec_codec.specs.declared.record.Record.{Record}
use Rattle.rec_codec.specs.declared.record.Record.TheVariants as kind
use Rattle.chess_entry.specs.State.{GameState}
use Rattle.rec_codec.specs.Limits.{ceiling}
use Rattle.chess_entry.specs.Bounds.{IsGame}
use Rattle.chess_entry.specs.Snapshot.{AreRuns, IsHeadOf, StoredGame, moves_record, records_of, IsStoredAs, AreStoredAs}

-- the records, and maybe others after them
pub record IsFrontOf (old new : List Record) : Type 0 where
  pub more : List Record
  pub records : new ≡ old ++ more

-- the records with a game's head record after them
pub record HasHeadMore (old new : List Record) (game : GameState) : Type 0 where
  pub head : Head
  pub of_game : IsHeadOf game head
  pub records : new ≡ old ++ kind.Head head ∷ []

-- the records with those of moves after them
pub record HasRunsMore (old new : List Record) (number : ℕ) (moves : List Move) : Type 0 where
  pub runs : List (List Move)
  pub cut : AreRuns moves runs
  pub records : new ≡ old ++ map (moves_record number) runs

-- the records with a game's part after them
pub record HasGameMore (old new : List Record) (game : GameState) : Type 0 where
  pub part : StoredGame
  pub stored : IsStoredAs game part
  pub records : new ≡ old ++ records_of part

-- The records hold the moves of a game, so many, cut into runs.
pub record HoldsMoves (number many : ℕ) (records : List Record) (moves : List Move) : Type 0 where
  pub runs : List (List Move)
  pub cut : AreRuns moves runs
  pub kept : records ≡ map (moves_record number) runs
  pub size : length moves ≡ many

-- The records start with a game's part, which has so many of them.
pub record StartsWithGame (records : List Record) (game : GameState) (many : ℕ) : Type 0 where
  pub part : StoredGame
  pub rest : List Record
  pub stored : IsStoredAs game part
  pub starts : records ≡ records_of part ++ rest
  pub size : length (records_of part) ≡ many

-- The records after a head record start with the moves of its game, in so many records with the head's own.
pub record HasGameAfter (head : Head) (rest : List Record) (game : GameState) (many : ℕ) : Type 0 where
  pub of_game : IsHeadOf game head
  pub is_game : IsGame 20000 game
  pub enough : ceiling head.moves 60 ≤ length rest
  pub moves : HoldsMoves head.game head.moves (take (ceiling head.moves 60) rest) game.moves
  pub size : many ≡ ceiling head.moves 60 + 1

-- No game of at most 20,000 moves has its part at the front of the records.
abbrev pub StartsWithNone : List Record → Type 0
StartsWithNone records = (game : GameState) (many : ℕ) → IsGame 20000 game → ¬ StartsWithGame records game many

-- the records with the parts of games after them
pub record HasGamesMore (old new : List Record) (games : List GameState) : Type 0 where
  pub parts : List StoredGame
  pub stored : AreStoredAs games parts
  pub records : new ≡ old ++ flat_map records_of parts

-- The records are the parts of games of at most 20,000 moves, and no others.
pub record HoldsGames (records : List Record) (games : List GameState) : Type 0 where
  pub parts : List StoredGame
  pub stored : AreStoredAs games parts
  pub are_games : EachOf (IsGame 20000) games
  pub kept : records ≡ flat_map records_of parts
