use Rattle.chess_hub.proofs.LawLemmas.{law}
use Rattle.chess_hub.proofs.laws.law_of_sessions.Goals as goal

pub returns : goal.returns
returns c = law
