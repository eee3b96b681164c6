use Rattle.lobby_web.proofs.EndLemmas.{heads_end}
use Rattle.lobby_web.proofs.laws.law_of_heads.Goals as goal

pub returns : goal.returns
returns c = heads_end
