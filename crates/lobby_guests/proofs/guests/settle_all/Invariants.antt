-- Those so far are done, and the others are as they were.
use Rattle.lobby_guests.specs.Guests.{IsSettled}
use Rattle.lobby_talk.proofs.Each.{IsZippedTo}
use Rattle.lobby_guests.proofs.guests.settle_all.Given as goal

abbrev pub invariant-loop-guest : goal.invariant-loop-guest
invariant-loop-guest g l = IsZippedTo IsSettled l.guest-index l.fn.guests.items l.guest-items
