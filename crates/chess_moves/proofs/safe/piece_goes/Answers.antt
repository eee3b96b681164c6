use Rattle.chess_moves.proofs.Safely.{piece_goes_set}
use Rattle.chess_moves.proofs.safe.piece_goes.Goals as goal

pub returns : goal.returns
returns c =
    rw c.meet.ensures
    (piece_goes_set c.args.board.now c.args.masks.now c.args.kind c.args.from c.targets.result c.allowed.result
    c.requires.masks c.requires.own c.requires.piece c.targets.ensures c.allowed.ensures)
