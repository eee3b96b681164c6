use Rattle.chess_moves.proofs.SetForms.{piece_set}
use Rattle.chess_moves.proofs.targets.piece_targets.Goals as goal

pub returns : goal.returns
returns c =
    rw c.without.ensures
    (piece_set c.args.board.now c.args.from c.args.kind c.attacked.result c.men_of.result c.attacked.ensures
    (rw c.side.ensures at c.men_of.ensures.held))
