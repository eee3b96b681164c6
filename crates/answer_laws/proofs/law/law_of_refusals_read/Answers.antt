use Rattle.answer_laws.proofs.Refused.{refused_read}
use Rattle.answer_laws.proofs.law.law_of_refusals_read.Goals as goal

pub returns : goal.returns
returns c = λ refusal told. refused_read refusal told
