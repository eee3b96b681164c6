use Rattle.chess_bits.specs.Table.{empty}
use Rattle.chess_moves.proofs.FreeMen.{free_pawn_set}
use Rattle.chess_moves.proofs.free.free_pawn_goes.Goals as goal

pub returns : goal.returns
returns c =
    rw (c.meet.ensures, c.union.ensures, c.union-forward.ensures, c.meet-takes.ensures)
    (free_pawn_set c.args.board.now c.args.masks.now c.args.from c.one_step.result c.two_steps.result c.pawn.result
    c.men_of.result c.requires.masks c.requires.free c.one_step.ensures c.two_steps.ensures
    (rw c.side-side.ensures at (c.pawn.ensures empty))
    (rw (c.other.ensures, c.side-side.ensures) at c.men_of.ensures.held))
