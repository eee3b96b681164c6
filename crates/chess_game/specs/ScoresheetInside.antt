-- What a line keeps.
use Rattle.std.specs.Prelude.{◌≡◌}
use Rattle.chess_board.specs.Line.{positions_of}
use Rattle.chess_repeat.specs.History.{IsHistoryOf}
use Rattle.chess_game.specs.declared.scoresheet.Scoresheet.TheInside.{Inside}
use Rattle.chess_game.specs.Scoresheet.{ScoresheetState, last_of}

abbrev pub scoresheet_of : Inside → ScoresheetState
scoresheet_of line = record { start = line.start; moves = line.moves.items }

-- The board is the position after the moves, and the history is that of all positions.
pub record IsSoundScoresheet (line : Inside) : Type 0 where
  pub board : line.board ≡ last_of (scoresheet_of line)
  pub history : IsHistoryOf line.history (positions_of line.start line.moves.items)
