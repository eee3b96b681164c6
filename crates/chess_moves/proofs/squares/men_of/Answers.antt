use Rattle.chess_moves.proofs.SetForms.{own_set}
use Rattle.chess_moves.proofs.squares.men_of.Goals as goal

pub returns-clause-held : goal.returns-clause-held
returns-clause-held c =
    rw (c.of.ensures, c.men.ensures) (own_set c.args.board.now c.args.colour c.rights-valid.ensures.valid.whole)
