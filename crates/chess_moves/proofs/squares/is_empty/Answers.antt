use Rattle.chess_moves.proofs.SquareLemmas.{empty-from_test, empty-test}
use Rattle.chess_moves.proofs.squares.is_empty.Goals as goal

pub returns-clause-empty : goal.returns-clause-empty
returns-clause-empty c =
    rw (c.contains.ensures.member, c.occupied.ensures, c.men.ensures)
    (empty-from_test c.args.board.now.placement c.args.square, empty-test c.args.board.now.placement c.args.square)
