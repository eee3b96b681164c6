-- A replay of a game, a part at a time.
use Rattle.std.specs.Prelude.{ℕ, ◌≡◌, ◌≤◌, ◌<◌, ◌+◌, ◌-◌, List, ◌++◌, length, map, take, drop, suc}
use Rattle.std.specs.String.{string_bytes}
use Rattle.chess_board.specs.declared.moves.Move.{Move}
use Rattle.chess_board.specs.Position.{Position}
use Rattle.chess_board.specs.Line.{position_after}
use Rattle.text_pgn.specs.declared.replay.Replay.{Replay}
use Rattle.text_pgn.specs.declared.replay.Part.{Part}
use Rattle.text_pgn.specs.declared.replay.Part.TheVariants.{More, Whole, NoGame}
use Rattle.text_pgn.specs.Game.{lines_of, fen_in, words_in, StartsAt, ArePlayed, TellsGame, TellsNone}
use Rattle.text_pgn.specs.Answer.{head, PutsRows, IsLineAnswer}

-- What is played goes on behind these moves.
pub record Continued (p : Position) (left : List (List ℕ)) (done all : List Move) : Type 0 where
  pub rest : List Move
  pub joined : all ≡ done ++ rest
  pub played : ArePlayed p left rest

-- Words are played up to a position: what the words that are left name there goes on with the moves that are done, and
-- nothing else is what all words name.
pub record Runs (start p : Position) (words left : List (List ℕ)) (done : List Move) : Type 0 where
  pub back : (rest : List Move) → ArePlayed p left rest → ArePlayed start words (done ++ rest)
  pub forth : (all : List Move) → ArePlayed start words all → Continued p left done all

-- how many words are left, and which
abbrev pub left : Replay → ℕ
left replay = length replay.words.items - replay.at

abbrev pub words_left : Replay → List (List ℕ)
words_left replay = drop replay.at (map string_bytes replay.words.items)

-- A replay of this PGN, of the game of this number, is under way: its words up to here name just the moves that are
-- played from the one start that it has, and the rows of these stand behind the head of the answer to `line G`.
pub record IsUnderWay (game : ℕ) (pgn : List ℕ) (replay : Replay) : Type 0 where
  pub start : Position
  pub begun : StartsAt (fen_in (lines_of pgn)) start
  pub only : (p : Position) → StartsAt (fen_in (lines_of pgn)) p → p ≡ start
  pub words : map string_bytes replay.words.items ≡ words_in pgn
  pub within : replay.at ≤ length replay.words.items
  pub done : List Move
  pub count : length done ≡ replay.at
  pub played : ArePlayed start (take replay.at (words_in pgn)) done
  pub runs : Runs start replay.board (words_in pgn) (words_left replay) done
  pub at : replay.board ≡ position_after start done
  pub rows : PutsRows start done (head game (length (words_in pgn)) start) (string_bytes replay.text)

-- Nothing of it is played yet: all of its words are left.
abbrev pub IsUnplayed : Replay → Type 0
IsUnplayed replay = replay.at ≡ 0

-- The next words, so many at most, name no moves from here on: one of them names none.
abbrev pub StopsWithin : ℕ → Replay → Type 0
StopsWithin most replay = (moves : List Move) → ¬ ArePlayed replay.board (take most (words_left replay)) moves

-- One word is played: what words from it on name goes on, behind it, from the position that its move brings.
pub record Goes (old new : Replay) : Type 0 where
  pub goes : (game : ℕ) → (pgn : List ℕ) → IsUnderWay game pgn old → IsUnderWay game pgn new
  pub words : new.words ≡ old.words
  pub at : new.at ≡ old.at + 1
  pub forth : (n : ℕ) → (moves : List Move) → ArePlayed old.board (take (suc n) (words_left old)) moves →
      (rest : List Move) × ArePlayed new.board (take n (words_left new)) rest

-- the answer to `line G` of the game that a PGN tells
pub record IsWhole (game : ℕ) (pgn text : List ℕ) : Type 0 where
  pub tells : (start : Position) × (moves : List Move) × TellsGame pgn start moves
  pub answers : (start : Position) → (moves : List Move) → TellsGame pgn start moves →
      IsLineAnswer game start moves text

-- What a part brings: where more words are left than it may play, it has played just so many; else the whole answer; or
-- that the PGN tells no game, where one of the words that it may play names no move.
abbrev pub IsPart : ℕ → List ℕ → ℕ → Replay → Part → Type 0
IsPart game pgn most old (More new) = IsUnderWay game pgn new × (left new + most ≡ left old) × (0 < left new)
IsPart game pgn most old (Whole text) = (left old ≤ most) × IsWhole game pgn (string_bytes text)
IsPart game pgn most old NoGame = TellsNone pgn × StopsWithin most old
