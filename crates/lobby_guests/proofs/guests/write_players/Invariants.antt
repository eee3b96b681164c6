-- To those so far is written, and the others are as they were.
use Rattle.lobby_talk.proofs.Each.{IsZippedTo}
use Rattle.lobby_guests.proofs.Writing.{IsWrittenFirst}
use Rattle.lobby_guests.proofs.guests.write_players.Given as goal

abbrev pub invariant-loop-guest : goal.invariant-loop-guest
invariant-loop-guest g l = IsZippedTo (IsWrittenFirst g.S.Write.contents l.site l.talk.desk) l.guest-index l.fn.guests.items l.guest-items
