-- Nothing that is to go was lost, and nothing else was touched.
use Rattle.std.proofs.Common.{◌≡◌}
use Rattle.chess_hub.specs.Law.{hub_store, hub_refusals}
use Rattle.chess_hub.specs.Session.{session_at}
use Rattle.chess_sockets.specs.Clients.{IsOpen, OthersStay, to_go}
use Rattle.chess_sockets.specs.Sending.{waiting}
use Rattle.chess_sockets.specs.Rounds.{AreGiven}
use Rattle.chess_sockets.proofs.client.gather.Given as goal

abbrev pub invariant-loop : goal.invariant-loop
invariant-loop g l = IsOpen l.hub.sessions l.sid
    × (to_go (session_at l.hub.sessions l.sid) (waiting l.outgoing)
    ≡ to_go (session_at l.fn.hub.sessions l.sid) (waiting l.fn.outgoing))
    × OthersStay l.fn.hub.sessions l.hub.sessions l.sid × AreGiven l.sid l.fn.hub.sessions l.hub.sessions
    × (hub_store l.hub ≡ hub_store l.fn.hub) × (hub_refusals l.hub ≡ hub_refusals l.fn.hub)
