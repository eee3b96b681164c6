use Rattle.server_words.proofs.BoardAnswerLemmas.{valid_after}
use Rattle.server_words.proofs.board_loop.AnsweredBoardAnswerer.answer.Goals as goal

pub returns-clause-ready : goal.returns-clause-ready
returns-clause-ready c =
    valid_after c.self.inside.board _ _ c.answer.new.board (rw c.self.view_is c.requires.ready) c.answer.ensures
