-- A replay of the game that the server tells.
use Rattle.std.specs.Prelude.{ℕ, ◌≡◌, ◌<◌, ◌^◌, List, decimal}
use Rattle.lobby_words.specs.Words.{word_of, rest_of}
use Rattle.text_pgn.specs.declared.replay.Replay.{Replay}
use Rattle.text_pgn.specs.Replaying.{IsUnderWay}
use Rattle.lobby_talk.specs.Making.{lines_behind}

-- So many plies of a replay are played in a turn at most.
abbrev pub plies_most : ℕ
plies_most = 16

-- the number of the game in `ok pgn G K`
abbrev pub IsNumberIn : List ℕ → ℕ → Type 0
IsNumberIn text game = (n : ℕ) → n < 2 ^ 32 → word_of (rest_of (rest_of text)) ≡ decimal n → game ≡ n

-- The text is the server's answer to `pgn G`, and a replay of the PGN in it is under way, as one of a game of this
-- number.
pub record IsReplayOf (text : List ℕ) (game : ℕ) (replay : Replay) : Type 0 where
  pub named : IsNumberIn text game
  pub under_way : IsUnderWay game (lines_behind text) replay
