use Rattle.std.proofs.Common.{sym, ◌∙◌}
use Rattle.std.proofs.lemmas.Bool.{false≢true}
use Rattle.chess_moves.proofs.Parts.{told_move, goes_of_move}
use Rattle.chess_moves.proofs.legality.is_move_of.Goals as goal

pub returns-then-is_reached-clause-rule : goal.returns-then-is_reached-clause-rule
returns-then-is_reached-clause-rule c =
    told_move c.args.board.now c.args.mv.now c.args.kind c.targets.result c.becomes.result c.targets.ensures
    c.contains-is_reached.ensures.on_board (sym c.if-is_reached.ensures.member)
    (rw c.side.ensures at c.becomes.ensures)

pub returns-else-is_reached-clause-rule : goal.returns-else-is_reached-clause-rule
returns-else-is_reached-clause-rule c = (
  λ reached. absurd (false≢true (sym c.if-is_reached.false ∙ reached)),
  λ move. absurd (false≢true (c.if-is_reached.ensures.member
      ∙ (c.targets.ensures.exact c.args.mv.now.to c.contains-is_reached.ensures.on_board).1
      (goes_of_move c.args.board.now c.args.mv.now c.args.kind move))),
)
