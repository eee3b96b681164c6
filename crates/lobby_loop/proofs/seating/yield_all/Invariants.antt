-- Those so far have yielded or not, and the others are as they were.
use Rattle.lobby_loop.proofs.Seats.{IsYieldingTo}
use Rattle.lobby_loop.proofs.seating.yield_all.Given as goal

abbrev pub invariant-loop-i : goal.invariant-loop-i
invariant-loop-i g l = IsYieldingTo l.i l.places l.fn.guests.items l.guest-items
