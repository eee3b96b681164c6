-- So many in front are told, and the others wait.
use Rattle.std.proofs.Common.{◌≡◌, ◌<◌, ◌≤◌, List, length}
use Rattle.lobby_guests.specs.declared.waiting.Waiting.{Waiting}
use Rattle.lobby_guests.specs.Guests.{AreNextTold, lines_in}
use Rattle.lobby_guests.proofs.guest.Guest.catch_up.Given as goal

abbrev pub invariant-loop : goal.invariant-loop
invariant-loop g l = record {
  front : List Waiting;
  are : AreNextTold l.fn.counts.at front l.fn.self l.self;
  once : lines_in front ≤ 1;
  fewer : length l.self.waits.items < length l.fn.self.waits.items;
  at : l.counts.at ≡ l.fn.counts.at;
  logins : l.counts.logins_refused ≡ l.fn.counts.logins_refused;
}

abbrev pub decreases-loop : goal.decreases-loop
decreases-loop g l = length l.self.waits.items
