-- Sockets so far may be ready.
use Rattle.lobby_loop.specs.Living.{IsWoken}
use Rattle.lobby_loop.proofs.lobby.wake_each.Given as goal

abbrev pub invariant-loop-event : goal.invariant-loop-event
invariant-loop-event l = IsWoken l.fn.hall l.hall
