-- A line of moves from a start.
use Rattle.std.specs.Prelude.{ℕ, ◌<◌, List, [], ◌∷◌, ◌++◌, length}
use Rattle.chess_board.specs.declared.moves.Move.{Move}
use Rattle.chess_board.specs.Position.{Position}
use Rattle.chess_board.specs.Line.{positions_of}
use Rattle.chess_entry.specs.State.{position_after}
use Rattle.chess_entry.specs.Outcome.{times}

pub record ScoresheetState : Type 0 where
  pub start : Position
  pub moves : List Move

-- the position after its moves
abbrev pub last_of : ScoresheetState → Position
last_of line = position_after line.start line.moves

-- how often that position has come
abbrev pub times_of : ScoresheetState → ℕ
times_of line = times (last_of line) (positions_of line.start line.moves)

-- the line with one move more
abbrev pub with_move : ScoresheetState → Move → ScoresheetState
with_move line m = record line { moves = line.moves ++ m ∷ [] }

-- A move more fits the counters of a position, and the number of a history's positions.
pub record HasRoom (line : ScoresheetState) : Type 0 where
  pub halfmove : (last_of line).halfmove < 65535
  pub fullmove : (last_of line).fullmove < 65535
  pub short : length line.moves < 65534
