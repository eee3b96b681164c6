use Rattle.lobby_loop.proofs.Living.{lobby_right}
use Rattle.lobby_loop.proofs.law.law_of_lobbies.Goals as goal

pub returns : goal.returns
returns g c = λ remaining contents players at_first passed now life. lobby_right remaining contents players at_first passed now life
