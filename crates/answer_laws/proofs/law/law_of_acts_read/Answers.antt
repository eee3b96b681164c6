use Rattle.answer_laws.proofs.Entered.{act_read, open_read}
use Rattle.answer_laws.proofs.law.law_of_acts_read.Goals as goal

pub returns-clause-acts : goal.returns-clause-acts
returns-clause-acts c = λ game e text is told. act_read game e text is told

pub returns-clause-openings : goal.returns-clause-openings
returns-clause-openings c = λ number small. open_read number small
