use Rattle.chess_moves.proofs.FreeMen.{free_piece_set}
use Rattle.chess_moves.proofs.free.free_piece_goes.Goals as goal

pub returns : goal.returns
returns c =
    rw (c.meet.ensures, c.without.ensures)
    (free_piece_set c.args.board.now c.args.masks.now c.args.kind c.args.from c.attacked.result c.men_of-own.result
    c.requires.masks c.requires.free c.requires.piece c.attacked.ensures
    (rw c.side.ensures at c.men_of-own.ensures.held))
