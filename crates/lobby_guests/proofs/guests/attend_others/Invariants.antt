-- To those so far it is done, and the others are as they were.
use Rattle.lobby_guests.specs.Guests.{IsOthersTurn, full_room}
use Rattle.lobby_guests.specs.Rounds.{others_room}
use Rattle.lobby_guests.proofs.EachGuest.{IsTurnedTo}
use Rattle.lobby_guests.proofs.guests.attend_others.Given as goal

abbrev pub invariant-loop-guest : goal.invariant-loop-guest
invariant-loop-guest g l =
    IsTurnedTo (IsOthersTurn g.S.Read.remaining l.site l.at) l.guest-index l.fn.guests.items l.guest-items
    (full_room l.fn.talk) (others_room l.talk l.strangers)
