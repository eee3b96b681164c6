-- Those so far are looked after, and the others are as they were.
use Rattle.lobby_guests.specs.Guests.{IsLookedAfter}
use Rattle.lobby_talk.proofs.Each.{IsZippedTo}
use Rattle.lobby_guests.proofs.guests.look_after_all.Given as goal

abbrev pub invariant-loop-guest : goal.invariant-loop-guest
invariant-loop-guest g l = IsZippedTo (IsLookedAfter l.talk.desk l.is_time l.at) l.guest-index l.fn.guests.items l.guest-items
