-- A game that the records of a snapshot name: its moves are played again, and what they do not decide is within its
-- bounds.
use Rattle.std.specs.Prelude.{◌≡◌, ◌≤◌, false, true, List, Option}
use Rattle.chess_bits.specs.declared.men.Colour.TheVariants.{White, Black}
use Rattle.chess_board.specs.declared.moves.Move.{Move}
use Rattle.chess_board.specs.Position.{Position}
use Rattle.chess_clock.specs.TimeControl.{time_control}
use Rattle.chess_end.specs.declared.ending.Ending.{Ending}
use Rattle.rec_codec.specs.declared.record.Seat.{Seat as StoredSeat}
use Rattle.rec_codec.specs.declared.record.Head.{Head}
use Rattle.chess_entry.specs.State.{SeatState, GameState, ply_of, is_joined, is_over}
use Rattle.chess_entry.specs.Bounds.{IsScoresheet, ending_by_last, Agrees, IsHeldWithin, IsQuiet, IsWaiting}
use Rattle.chess_entry.specs.Bounds.{IsOpenedWith, IsGame}
use Rattle.chess_entry.specs.Snapshot.{ending_told, IsHeadOf}
use Rattle.chess_game.specs.Scoresheet.{ScoresheetState}

abbrev pub seat_named : StoredSeat → SeatState
seat_named seat = record { name = seat.name; held = seat.held; offers = seat.offers }

-- The one game that can have this head and these moves.
abbrev pub game_named : Head → List Move → GameState
game_named head moves = record {
  number = head.game;
  start = head.start;
  control = time_control head.initial head.increment head.period;
  white = seat_named head.white;
  black = seat_named head.black;
  moves = moves;
  moment = head.moment;
  claimed = head.claimed;
  ending = ending_told head.ending;
}

-- what a game of at most 20,000 moves has from its opening and its join on
pub record MayBeOpened (game : GameState) : Type 0 where
  pub opened : IsOpenedWith game.control game.start game.white.name game.black.name
  pub short : ply_of game ≤ 20000

-- the line of some moves, and the ending that the last of them gives
pub record IsReplayed (first : Position) (made : List Move) (line : ScoresheetState)
    (by_line : Option Ending) : Type 0 where
  pub is_scoresheet : IsScoresheet first made
  pub start : line.start ≡ first
  pub moves : line.moves ≡ made
  pub ends : by_line ≡ ending_by_last first made

-- The ending may follow the line, and nothing is offered or claimed after it.
pub record EndsRightly (game : GameState) : Type 0 where
  pub ending : Agrees (ending_by_last game.start game.moves) game.ending
  pub quiet : is_over game ≡ true → IsQuiet game

-- what a game has of what was done in it
pub record MayStand (game : GameState) : Type 0 where
  pub waiting : is_joined game ≡ false → IsWaiting game
  pub ends : EndsRightly game
  pub held : IsHeldWithin game White × IsHeldWithin game Black

-- the game of a head and its moves
pub record IsRestored (stored : Head) (made : List Move) (game : GameState) : Type 0 where
  pub head : IsHeadOf game stored
  pub moves : game.moves ≡ made
  pub is_game : IsGame 20000 game

-- No game of at most 20,000 moves has this head and these moves.
abbrev pub NamesNoGame : Head → List Move → Type 0
NamesNoGame head moves = (game : GameState) → IsHeadOf game head → game.moves ≡ moves → ¬ IsGame 20000 game
