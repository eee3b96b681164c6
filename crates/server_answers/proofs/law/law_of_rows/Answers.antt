use Rattle.server_answers.proofs.Standing.{row_read, row_only}
use Rattle.server_answers.proofs.law.law_of_rows.Goals as goal

pub returns-clause-read : goal.returns-clause-read
returns-clause-read c = λ row is. row_read row is

pub returns-clause-only : goal.returns-clause-only
returns-clause-only c = λ line row h. row_only line row h
