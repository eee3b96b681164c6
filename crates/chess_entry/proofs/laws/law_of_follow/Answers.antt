use Rattle.chess_entry.proofs.LawOfFollow.{law}
use Rattle.chess_entry.proofs.laws.law_of_follow.Goals as goal

pub returns : goal.returns
returns c = law
