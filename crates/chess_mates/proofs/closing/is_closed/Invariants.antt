use Rattle.std.proofs.Common.{take}
use Rattle.std.specs.List.{All}
use Rattle.chess_board.specs.Position.{Position}
use Rattle.chess_mates.specs.Closed.{IsQuiet}
use Rattle.chess_mates.proofs.closing.is_closed.Given as goal

-- the boards so far are quiet
abbrev pub invariant-loop-board : goal.invariant-loop-board
invariant-loop-board l = All (λ (p : Position). IsQuiet l.side l.boards p) (take l.board-index l.boards)
