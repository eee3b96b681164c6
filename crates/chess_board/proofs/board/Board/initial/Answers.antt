use Rattle.chess_board.specs.Initial.{initial}
use Rattle.chess_board.proofs.Broken.{none_broken}
use Rattle.chess_board.proofs.Deciding.{IsValid-initial}
use Rattle.chess_board.proofs.board.Board.initial.Goals as goal

pub unreachable-requires : goal.unreachable-requires
unreachable-requires c = none_broken initial c.in-Err.field-0 IsValid-initial c.in-Err.ensures.err
