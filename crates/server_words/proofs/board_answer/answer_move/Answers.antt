use Rattle.server_words.proofs.BoardAnswerLemmas.{text-no_move}
use Rattle.server_words.proofs.board_answer.answer_move.Goals as goal

pub returns-in-Some : goal.returns-in-Some
returns-in-Some c = c.answer_coordinate.ensures c.args.text.now c.in-Some.ensures.found

pub returns-in-None : goal.returns-in-None
returns-in-None c = text-no_move c.args.board.now c.args.text.now c.refuse.new.said.bytes
    c.in-None.ensures.none c.refuse.ensures
