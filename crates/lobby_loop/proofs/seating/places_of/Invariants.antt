-- The places of those so far.
use Rattle.std.proofs.Common.{◌≡◌, map, take}
use Rattle.lobby_guests.specs.Place.{place_of}
use Rattle.lobby_loop.proofs.seating.places_of.Given as goal

abbrev pub invariant-loop-guest : goal.invariant-loop-guest
invariant-loop-guest g l = l.places.items ≡ map (place_of l.talk.desk) (take l.guest-index l.guests)
