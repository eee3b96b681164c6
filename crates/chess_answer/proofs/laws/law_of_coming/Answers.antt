use Rattle.chess_answer.proofs.Coming.{law}
use Rattle.chess_answer.proofs.laws.law_of_coming.Goals as goal

pub returns : goal.returns
returns c = law
