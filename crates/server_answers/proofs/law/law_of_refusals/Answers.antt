use Rattle.server_answers.proofs.Refused.{refusal_read, refusal_only}
use Rattle.server_answers.proofs.law.law_of_refusals.Goals as goal

pub returns-clause-read : goal.returns-clause-read
returns-clause-read c = λ refusal is. refusal_read refusal is

pub returns-clause-only : goal.returns-clause-only
returns-clause-only c = λ line refusal h. refusal_only line refusal h
