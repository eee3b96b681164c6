use Rattle.lobby_loop.proofs.Waking.{woken_none}
use Rattle.lobby_loop.proofs.lobby.wake_socket.Goals as goal

-- where it is the listener's nothing changes
pub returns-in-0 : goal.returns-in-0
returns-in-0 c = woken_none c.args.hall.now
