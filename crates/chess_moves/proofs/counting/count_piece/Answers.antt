use Rattle.std.proofs.Common.{◌∙◌, sym}
use Rattle.chess_moves.proofs.Counted.{length-other}
use Rattle.chess_moves.proofs.FreeMen.{piece_apart}
use Rattle.chess_moves.proofs.counting.count_piece.Goals as goal

pub returns : goal.returns
returns c =
    c.count.ensures
    ∙ sym (length-other c.args.board.now c.args.from c.args.kind c.free_piece_goes.result
    c.requires.masks.valid.whole c.requires.free.own (piece_apart c.args.kind c.requires.piece)
    c.free_piece_goes.ensures)
