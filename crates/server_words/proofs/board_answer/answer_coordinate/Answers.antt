use Rattle.std.proofs.Common.{subst}
use Rattle.chess_board.specs.Position.{Position}
use Rattle.chess_board.specs.Legal.{IsLegal}
use Rattle.server_words.proofs.BoardAnswerLemmas.{text-illegal}
use Rattle.server_words.proofs.board_answer.answer_coordinate.Goals as goal

pub returns-in-None : goal.returns-in-None
returns-in-None c = λ text coordinate.
    text-illegal c.args.board.now text c.refuse.new.said.bytes c.args.mv.now
    (subst (λ (p : Position). ¬ IsLegal p c.args.mv.now) c.board-before.ensures c.in-None.ensures.none) coordinate
    c.refuse.ensures
