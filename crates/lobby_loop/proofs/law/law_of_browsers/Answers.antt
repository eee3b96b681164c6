use Rattle.lobby_loop.proofs.Speaking.{served_speaks}
use Rattle.lobby_loop.proofs.law.law_of_browsers.Goals as goal

pub returns : goal.returns
returns g c = λ remaining contents site came steps out number now served. served_speaks remaining contents site came steps out number now served
