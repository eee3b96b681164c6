use Rattle.lobby_web.proofs.SayingLemmas.{uttered}
use Rattle.lobby_web.proofs.laws.law_of_sayings.Goals as goal

pub returns : goal.returns
returns c = uttered
