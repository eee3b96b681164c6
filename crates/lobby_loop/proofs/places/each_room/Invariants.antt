-- What the rest of them make of it, all of them make of it, and no more are there than are told.
use Rattle.std.proofs.Common.{◌≡◌, drop}
use Rattle.lobby_loop.specs.Places.{each_room, IsTallied}
use Rattle.lobby_loop.proofs.places.each_room.Given as goal

abbrev pub invariant-loop-place : goal.invariant-loop-place
invariant-loop-place l =
    (each_room l.all l.fn.places ≡ each_room (drop l.place-index l.all) l.places) × IsTallied l.tally l.places
