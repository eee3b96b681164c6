-- Those so far are done, and the others are as they were.
use Rattle.std.proofs.Common.{◌≡◌, ◌++◌, take, drop}
use Rattle.lobby_loop.specs.Places.{counted, leave}
use Rattle.lobby_loop.proofs.places.leave.Given as goal

abbrev pub invariant-loop-place : goal.invariant-loop-place
invariant-loop-place l =
    leave (counted l.address l.class) l.count l.fn.places
    ≡ take l.place-index l.places ++ leave (counted l.address l.class) l.left (drop l.place-index l.places)
