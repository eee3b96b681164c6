use Rattle.server_answers.proofs.Standing.{shown_read, shown_only}
use Rattle.server_answers.proofs.law.law_of_shown.Goals as goal

pub returns-clause-read : goal.returns-clause-read
returns-clause-read c = λ shown is. shown_read shown is

pub returns-clause-only : goal.returns-clause-only
returns-clause-only c = λ line shown h. shown_only line shown h
