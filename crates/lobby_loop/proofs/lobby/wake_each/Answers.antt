-- Who is woken one after the other is woken.
use Rattle.lobby_loop.proofs.Waking.{woken_none, woken_more}
use Rattle.lobby_loop.proofs.lobby.wake_each.Goals as goal

pub loop-event-init : goal.loop-event-init
loop-event-init c = woken_none c.args.hall.now

pub loop-event-preserved : goal.loop-event-preserved
loop-event-preserved c =
    woken_more c.args.hall.now c.loop-event.hall c.wake_socket-any.new.hall c.loop-event.invariant
    c.wake_socket-any.ensures
