use Rattle.answer_laws.proofs.Names.{run_entered}
use Rattle.answer_laws.proofs.law.law_of_entered_names.Goals as goal

pub returns : goal.returns
returns c = λ players at_first steps now run. run_entered players at_first steps now run
