use Rattle.std.proofs.Common.{take}
use Rattle.std.specs.List.{All}
use Rattle.chess_board.specs.declared.moves.Move.{Move}
use Rattle.chess_board.specs.Next.{next}
use Rattle.chess_mates.specs.Closed.{HasLike}
use Rattle.chess_mates.proofs.closing.leads_into.Given as goal

-- the moves so far lead into the list
abbrev pub invariant-loop-mv : goal.invariant-loop-mv
invariant-loop-mv l = All (λ (m : Move). HasLike l.boards (next l.board m)) (take l.mv-index l.mv-items)
