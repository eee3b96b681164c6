use Rattle.lobby_loop.proofs.Living.{life_right}
use Rattle.lobby_loop.proofs.law.law_of_halls.Goals as goal

pub returns : goal.returns
returns g c = λ remaining contents players at_first past now life. life_right remaining contents players at_first past now life
