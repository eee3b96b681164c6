-- No connection was given so far, and each try is counted.
use Rattle.std.proofs.Common.{◌≡◌, ◌≤◌}
use Rattle.sockets.proofs.listener.next_connection.Given as goal

abbrev pub invariant-loop : goal.invariant-loop
invariant-loop g l = (g.L.Listens.given_so_far l.listener ≡ g.L.Listens.given_so_far l.fn.listener)
    × (g.L.Listens.tried_so_far l.fn.listener ≤ g.L.Listens.tried_so_far l.listener)
