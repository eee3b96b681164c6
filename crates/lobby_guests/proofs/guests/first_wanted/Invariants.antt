-- Of those so far and of the rest that which waits longest does so of all.
use Rattle.std.proofs.Common.{◌≡◌, drop}
use Rattle.std.specs.Option.{option_map}
use Rattle.lobby_guests.specs.Guests.{first_wanted}
use Rattle.lobby_guests.specs.Waiting.{first_of}
use Rattle.lobby_guests.proofs.guests.first_wanted.Given as goal

abbrev pub invariant-loop-guest : goal.invariant-loop-guest
invariant-loop-guest g l =
    first_of (option_map (λ one. one.now) l.first) (first_wanted (drop l.guest-index l.guests)) ≡ first_wanted l.guests
