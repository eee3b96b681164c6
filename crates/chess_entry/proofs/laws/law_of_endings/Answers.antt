use Rattle.chess_entry.proofs.EndingCases.{law_of_endings}
use Rattle.chess_entry.proofs.laws.law_of_endings.Goals as goal

pub returns : goal.returns
returns c = law_of_endings
