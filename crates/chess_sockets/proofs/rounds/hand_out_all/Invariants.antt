-- Who was written to so far was, and the others are as they were.
use Rattle.std.proofs.Common.{◌≡◌, ◌<◌, true, length}
use Rattle.chess_hub.specs.Law.{hub_store, hub_refusals}
use Rattle.chess_hub.specs.Session.{IsUnchanged}
use Rattle.chess_sockets.specs.Rounds.{IsWritten}
use Rattle.chess_sockets.proofs.RoundLemmas.{IsDoneTo}
use Rattle.chess_sockets.proofs.rounds.hand_out_all.Given as goal

abbrev pub invariant-loop-client : goal.invariant-loop-client
invariant-loop-client g l = record {
  done : IsDoneTo IsUnchanged (IsWritten g.S.Write.contents) l.client-index l.fn.clients.items l.client-items l.fn.hub.sessions
      l.hub.sessions;
  more : l.any ≡ true → 0 < length l.fn.clients.items;
  store : hub_store l.hub ≡ hub_store l.fn.hub;
  refusals : hub_refusals l.hub ≡ hub_refusals l.fn.hub;
}
