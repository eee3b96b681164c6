use Rattle.chess_moves.proofs.SetForms.{only_set}
use Rattle.chess_moves.proofs.squares.only.Goals as goal

pub returns : goal.returns
returns c =
    rw (c.assign.ensures.assigned, c.new-set.ensures)
    (only_set c.args.square c.args.included c.assign.ensures.on_board)
