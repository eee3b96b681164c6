use Rattle.lobby_loop.proofs.Leaving.{turn_lost}
use Rattle.lobby_loop.proofs.law.law_of_leaving.Goals as goal

pub returns : goal.returns
returns g c = λ remaining contents at old new turn. turn_lost remaining contents at old new turn
