-- A game as spectators are told it, and the text of its file.
use Rattle.std.specs.Prelude.{ℕ, ◌≡◌, Bool, false, List, length, Option, None, Some, IfSome}
use Rattle.std.specs.Option.{option_map}
use Rattle.std.specs.String.{string_bytes}
use Rattle.chess_board.specs.declared.moves.Move.{Move}
use Rattle.chess_board.specs.Position.{Position}
use Rattle.server_answers.specs.declared.games.Shown.{Shown}
use Rattle.server_answers.specs.declared.values.Side.{Side}
use Rattle.server_answers.specs.Games.{shown_in}
use Rattle.server_answers.specs.Values.{seat_text, ending_result, ending_article}
use Rattle.text_pgn.specs.declared.spectated.Notices.{Notices}
use Rattle.text_pgn.specs.declared.spectated.Stand.{Stand}
use Rattle.text_pgn.specs.declared.spectated.Spectated.{Spectated}
use Rattle.text_pgn.specs.Game.{TellsGame}
use Rattle.text_pgn.specs.Rows.{rows_in, move_rows}
use Rattle.text_pgn.specs.Spectators.{IsPlayed, game_json, is_stopped, running_side}
use Rattle.night_links.specs.declared.spectated_game.GameNow.{GameNow}
use Rattle.night_links.specs.declared.spectated_game.Said.{Said}
use Rattle.night_links.specs.declared.spectated_game.SpectatedGame.{SpectatedGame}
use Rattle.night_links.specs.declared.spectated_game.Standing.{Standing}

-- ---- a game as it is told

-- What an arbiter has everybody told is kept as it is.
pub record IsSaid (notices : Notices) (s : Said) : Type 0 where
  pub stopped : string_bytes s.stopped ≡ notices.stopped.now
  pub announced : string_bytes s.announced ≡ notices.announced.now

-- It stands as the server's answer to `show` tells, which came at this moment, and these are the clocks after its
-- moves.
pub record IsStanding (text : List ℕ) (told : Shown) (moment : ℕ) (times : List (Option ℕ)) (s : Standing) : Type 0
  where
    pub shown : string_bytes s.shown ≡ text
    pub at : s.at ≡ moment
    pub white : string_bytes s.white ≡ seat_text told.seats.white
    pub black : string_bytes s.black ≡ seat_text told.seats.black
    pub result : string_bytes s.result ≡ ending_result told.ending
    pub article : string_bytes s.article ≡ ending_article told.ending
    pub clocks : s.clocks.items ≡ times

-- The same of a text, where it is such an answer.
abbrev pub StandsBy : List ℕ → ℕ → List (Option ℕ) → Standing → Type 0
StandsBy text moment times s =
    IfSome (shown_in text) (λ (told : Shown). IsStanding text told moment times s)

-- The same of what the server told of a game, where it is on the table.
abbrev pub StandsAsTold : GameNow → Standing → Type 0
StandsAsTold now s =
    IfSome now.told (λ pair. StandsBy (string_bytes pair.0.now.shown) pair.0.now.at pair.1.now s)

-- what the server's answer to `show` tells of it, where it is one
abbrev pub shown_of : SpectatedGame → Option Shown
shown_of g = shown_in (string_bytes g.standing.shown)

-- how many moves an answer to `line G` has: a row for each behind that of the start
abbrev pub plies_in : List ℕ → ℕ
plies_in answer = length (move_rows (rows_in answer))

-- It stands behind the last of the moves that are told of it.
abbrev pub StandsBehind : SpectatedGame → Type 0
StandsBehind g = IfSome (shown_of g) (λ (shown : Shown). shown.ply ≡ plies_in (string_bytes g.played.answer))

-- It is this game by these tags, as it was told; and of the game that the PGN tells, its answer to `line G` is kept,
-- each move by the Laws.
pub record IsToldNow (now : GameNow) (g : SpectatedGame) : Type 0 where
  pub game : g.game ≡ now.game
  pub tags : string_bytes g.tags.text ≡ now.tags.now
  pub said : IsSaid now.notices g.said
  pub stands : StandsAsTold now g.standing
  pub played : (start : Position) → (moves : List Move) → TellsGame now.moves.now start moves →
      IsPlayed now.game start moves g.played
  pub behind : StandsBehind g

-- ---- its file

-- the side whose clock runs; none of a game of which nothing is shown
abbrev pub running_of : Option Shown → Bool → Option Side
running_of None is_stopped = None
running_of (Some shown) is_stopped = running_side shown.ending is_stopped shown.side

-- the offers that stand; none of a game of which nothing is shown
abbrev pub offer_of : (Shown → Bool) → Option Shown → Bool
offer_of side None = false
offer_of side (Some shown) = side shown

-- How it stands is what that answer tells; no clock runs while all are stopped.
pub record IsStand (g : SpectatedGame) (s : Stand) : Type 0 where
  pub at : s.at ≡ g.standing.at
  pub running : s.running ≡ running_of (shown_of g) (is_stopped (string_bytes g.said.stopped))
  pub clocks : s.clocks ≡ option_map (λ (shown : Shown). shown.clocks) (shown_of g)
  pub white_offer : s.offers.white ≡ offer_of (λ (shown : Shown). shown.offers.white) (shown_of g)
  pub black_offer : s.offers.black ≡ offer_of (λ (shown : Shown). shown.offers.black) (shown_of g)
  pub result : s.result.now ≡ string_bytes g.standing.result
  pub article : s.article.now ≡ string_bytes g.standing.article

-- What is told of it is what is known of it.
pub record IsSpectated (g : SpectatedGame) (told : Spectated) : Type 0 where
  pub game : told.game ≡ g.game
  pub notices : IsSaid told.notices g.said
  pub white : told.white.now ≡ string_bytes g.standing.white
  pub black : told.black.now ≡ string_bytes g.standing.black
  pub white_name : told.white_name.now ≡ string_bytes g.tags.white_name
  pub black_name : told.black_name.now ≡ string_bytes g.tags.black_name
  pub tags : told.tags.now ≡ string_bytes g.tags.text
  pub times : told.times.now ≡ string_bytes g.tags.times
  pub stand : IsStand g told.stand

-- The text of its file tells the rows of its answer to `line G`, so its moves and the positions that they bring, and
-- the clocks after them.
pub record IsFileOf (g : SpectatedGame) (text : List ℕ) : Type 0 where
  pub told : Spectated
  pub is_told : IsSpectated g told
  pub is : text ≡
      game_json told (rows_in (string_bytes g.played.answer)) g.played.is_check g.standing.clocks.items
