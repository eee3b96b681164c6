use Rattle.std.proofs.Common.{sym, refl, ◌∙◌}
use Rattle.std.proofs.lemmas.Bool.{false≢true}
use Rattle.server_words.proofs.BoardAnswerLemmas.{text-made, text-illegal}
use Rattle.server_words.proofs.board_answer.answer_at_limit.Goals as goal

pub returns-then-legal : goal.returns-then-legal
returns-then-legal c = λ text coordinate.
    text-made c.args.board.now text c.say.new.said.bytes c.args.mv.now c.args.board.now
    (c.legal.ensures.0 c.if-legal.true) coordinate (λ room. absurd (room c.requires.limit))
    (λ room. absurd (room c.requires.limit)) (λ _. (refl, c.say.ensures))

pub returns-else-legal : goal.returns-else-legal
returns-else-legal c = λ text coordinate.
    text-illegal c.args.board.now text c.refuse.new.said.bytes c.args.mv.now
    (λ h. false≢true (sym c.if-legal.false ∙ c.legal.ensures.1 h)) coordinate c.refuse.ensures
