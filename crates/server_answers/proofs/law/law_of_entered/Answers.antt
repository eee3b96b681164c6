use Rattle.server_answers.proofs.DoneActs.{entered_read, entered_only}
use Rattle.server_answers.proofs.law.law_of_entered.Goals as goal

pub returns-clause-read : goal.returns-clause-read
returns-clause-read c = λ entered is. entered_read entered is

pub returns-clause-only : goal.returns-clause-only
returns-clause-only c = λ line entered h. entered_only line entered h
