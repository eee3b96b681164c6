-- A table of games, as the players see it, and what can be read off a game that stands on it.
use Rattle.std.specs.Prelude.{ℕ, ◌==◌, ◌&&◌, Bool, List, [], ◌∷◌, length, Option, Some, None, is_some, if◌then◌else◌}
use Rattle.chess_bits.specs.declared.men.Colour.{Colour}
use Rattle.chess_bits.specs.declared.men.Colour.TheVariants.{White, Black}
use Rattle.chess_board.specs.declared.moves.Move.{Move}
use Rattle.chess_board.specs.Position.{Position}
pub use Rattle.chess_board.specs.Line.{position_after}
use Rattle.chess_end.specs.declared.ending.Ending.{Ending}
use Rattle.chess_clock.specs.TimeControl.{TimeControl}
use Rattle.rec_codec.specs.declared.limits.Limits.{Limits}

-- A side of a game: who plays it, the milliseconds that it held at the start of the running turn (of a game that is
-- over, what it had left at the end), and whether an offer of a draw by it stands.
pub record SeatState : Type 0 where
  pub name : Option (List ℕ)
  pub held : ℕ
  pub offers : Bool

-- A game: its number, the position and the times that it started with, its sides, the moves made, the moment at which
-- the running turn began (of a game that is over, at which it ended; 0 before both seats are taken), whether the side
-- to move has claimed in this turn, and the ending.
pub record GameState : Type 0 where
  pub number : ℕ
  pub start : Position
  pub control : TimeControl
  pub white : SeatState
  pub black : SeatState
  pub moves : List Move
  pub moment : ℕ
  pub claimed : Bool
  pub ending : Option Ending

-- A table: how many games and moves a game it may have, the games by rising number, the greatest moment of any entry,
-- the last number given to a game, and the number of entries.
pub record TableState : Type 0 where
  pub limits : Limits
  pub games : List GameState
  pub moment : ℕ
  pub last : ℕ
  pub entries : ℕ

abbrev pub position_of : GameState → Position
position_of game = position_after game.start game.moves

-- the number of moves made
abbrev pub ply_of : GameState → ℕ
ply_of game = length game.moves

abbrev pub seat_of : Colour → GameState → SeatState
seat_of White game = game.white
seat_of Black game = game.black

-- both seats are taken
abbrev pub is_joined : GameState → Bool
is_joined game = is_some game.white.name && is_some game.black.name

abbrev pub is_over : GameState → Bool
is_over game = is_some game.ending

-- the game of a number, if one stands on the table
abbrev pub find_game : ℕ → List GameState → Option GameState
find_game number [] = None
find_game number (game ∷ games) = if game.number == number then Some game else find_game number games
