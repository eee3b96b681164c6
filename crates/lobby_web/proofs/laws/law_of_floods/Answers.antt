use Rattle.lobby_web.proofs.HoldingLemmas.{held}
use Rattle.lobby_web.proofs.laws.law_of_floods.Goals as goal

pub returns : goal.returns
returns c = held
