-- Of those so far it is the longest wait.
use Rattle.std.proofs.Common.{◌≤◌, length, take}
use Rattle.chess_sockets.specs.Clients.{IsLongest}
use Rattle.chess_sockets.proofs.rounds.longest_wait.Given as goal

abbrev pub invariant-loop-client : goal.invariant-loop-client
invariant-loop-client g l = record {
  within : l.client-index ≤ length l.clients;
  longest : IsLongest l.hub.sessions (take l.client-index l.clients) l.longest;
}
