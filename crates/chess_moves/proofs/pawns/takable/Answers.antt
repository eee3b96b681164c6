use Rattle.std.proofs.Common.{sym}
use Rattle.chess_moves.proofs.SetForms.{takable_set, takable_set_none}
use Rattle.chess_moves.proofs.pawns.takable.Goals as goal

pub returns-in-None : goal.returns-in-None
returns-in-None c =
    takable_set_none c.args.board.now c.men_of-theirs.result
    (rw (c.other.ensures, c.side.ensures) at c.men_of-theirs.ensures.held) (sym c.in-None.ensures)

pub returns-in-Some : goal.returns-in-Some
returns-in-Some c =
    rw c.union.ensures
    (takable_set c.args.board.now c.men_of-theirs.result c.only.result c.in-Some.target
    (rw (c.other.ensures, c.side.ensures) at c.men_of-theirs.ensures.held) (sym c.in-Some.ensures) c.only.ensures)
