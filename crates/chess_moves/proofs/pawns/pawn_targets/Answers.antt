use Rattle.chess_moves.proofs.SetForms.{pawn_set}
use Rattle.chess_moves.proofs.pawns.pawn_targets.Goals as goal

pub returns : goal.returns
returns c =
    rw (c.union.ensures, c.union-forward.ensures)
    (pawn_set c.args.board.now c.args.from c.one_step.result c.two_steps.result c.takes.result c.one_step.ensures
    c.two_steps.ensures c.takes.ensures)
