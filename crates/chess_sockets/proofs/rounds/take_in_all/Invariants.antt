-- Who was read for so far was, and the others are as they were.
use Rattle.std.proofs.Common.{◌≡◌, ◌<◌, true, length}
use Rattle.chess_hub.specs.Law.{hub_store, hub_refusals}
use Rattle.chess_sockets.specs.Clients.{IsLongest}
use Rattle.chess_sockets.specs.Rounds.{intake, Holds, IsRead, times}
use Rattle.chess_sockets.proofs.RoundLemmas.{IsDoneTo}
use Rattle.chess_sockets.proofs.rounds.take_in_all.Given as goal

abbrev pub invariant-loop-client : goal.invariant-loop-client
invariant-loop-client g l = record {
  done : IsDoneTo Holds (IsRead g.S.Read.remaining (times l.fn.reading.at l.fn.reading.silence) l.room.longest) l.client-index
      l.fn.clients.items l.client-items (intake l.fn.hub.sessions 1) (intake l.hub.sessions l.room.lines);
  longest : IsLongest l.fn.hub.sessions l.fn.clients.items l.room.longest;
  more : l.any ≡ true → 0 < length l.fn.clients.items;
  store : hub_store l.hub ≡ hub_store l.fn.hub;
  refusals : hub_refusals l.hub ≡ hub_refusals l.fn.hub;
}
