use Rattle.lobby_web.proofs.LifeLemmas.{heeded}
use Rattle.lobby_web.proofs.laws.law_of_messages.Goals as goal

pub returns : goal.returns
returns c = heeded
