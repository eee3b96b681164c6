use Rattle.answer_laws.proofs.Games.{list_row_read}
use Rattle.answer_laws.proofs.law.law_of_rows_read.Goals as goal

pub returns : goal.returns
returns c = λ game line is whole. list_row_read game line is whole
