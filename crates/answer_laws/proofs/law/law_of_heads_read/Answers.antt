use Rattle.answer_laws.proofs.Heads.{list_head_read, pgn_head_read}
use Rattle.answer_laws.proofs.law.law_of_heads_read.Goals as goal

pub returns-clause-list : goal.returns-clause-list
returns-clause-list c = λ count small. list_head_read count small

pub returns-clause-pgn : goal.returns-clause-pgn
returns-clause-pgn c = λ game line body is reply few. pgn_head_read game line body is reply few
