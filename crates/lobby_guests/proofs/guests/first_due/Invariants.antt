-- The earliest of those so far and of the rest is that of all.
use Rattle.std.proofs.Common.{◌≡◌, drop}
use Rattle.lobby_guests.specs.Guests.{earlier, first_due}
use Rattle.lobby_guests.proofs.guests.first_due.Given as goal

abbrev pub invariant-loop-guest : goal.invariant-loop-guest
invariant-loop-guest g l =
    earlier l.first (first_due l.fn.at (drop l.guest-index l.connections)) ≡ first_due l.fn.at l.connections
