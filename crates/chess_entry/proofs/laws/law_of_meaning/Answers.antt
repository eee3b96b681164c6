use Rattle.chess_entry.proofs.OneMeaning.{law}
use Rattle.chess_entry.proofs.laws.law_of_meaning.Goals as goal

pub returns : goal.returns
returns c = law
