use Rattle.server_answers.proofs.Counted.{list_read, list_only, pgn_read, pgn_only}
use Rattle.server_answers.proofs.law.law_of_heads.Goals as goal

pub returns-clause-list : goal.returns-clause-list
returns-clause-list c = λ count small. list_read count small

pub returns-clause-list_only : goal.returns-clause-list_only
returns-clause-list_only c = λ line count h. list_only line count h

pub returns-clause-pgn : goal.returns-clause-pgn
returns-clause-pgn c = λ head is. pgn_read head is

pub returns-clause-pgn_only : goal.returns-clause-pgn_only
returns-clause-pgn_only c = λ line head h. pgn_only line head h
