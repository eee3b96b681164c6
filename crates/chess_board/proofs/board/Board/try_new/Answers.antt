use Rattle.std.proofs.Common.{subst}
use Rattle.chess_board.specs.Position.{Position}
use Rattle.chess_board.specs.Parts.{IsFirstBroken}
use Rattle.chess_board.proofs.board.Board.try_new.Goals as goal

pub returns-in-Some-clause-err : goal.returns-in-Some-clause-err
returns-in-Some-clause-err c =
    let Broken' : Position → Type 0 = λ p. IsFirstBroken p c.in-Some.fault in
    subst Broken' c.new-draft.ensures c.in-Some.ensures
