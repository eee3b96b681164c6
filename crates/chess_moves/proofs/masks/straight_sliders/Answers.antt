use Rattle.chess_moves.proofs.Foes.{straight_set}
use Rattle.chess_moves.proofs.masks.straight_sliders.Goals as goal

pub returns : goal.returns
returns c way even =
    rw (c.meet.ensures, c.union.ensures, c.of_kind.ensures, c.of_kind-2.ensures, c.men-men.ensures)
    (straight_set c.args.board.now c.men_of-theirs.result way c.men_of-theirs.ensures.valid.whole even
    (rw (c.other.ensures, c.side.ensures) at c.men_of-theirs.ensures.held))
