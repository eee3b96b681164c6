use Rattle.text_parts.proofs.Texts.{back, behind}
use Rattle.text_parts.proofs.law.law_of_strings.Goals as goal

pub returns-clause-text : goal.returns-clause-text
returns-clause-text c = λ text rest. back text rest

pub returns-clause-rest : goal.returns-clause-rest
returns-clause-rest c = λ text rest. behind text rest
