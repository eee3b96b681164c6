use Rattle.answer_laws.proofs.Games.{show_read}
use Rattle.answer_laws.proofs.law.law_of_shown_read.Goals as goal

pub returns : goal.returns
returns c = λ game at is. show_read game at is
