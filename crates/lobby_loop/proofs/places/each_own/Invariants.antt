-- What the rest of them make of it, all of them make of it, and for no player more act than are told.
use Rattle.std.proofs.Common.{◌≡◌, drop}
use Rattle.lobby_loop.specs.Places.{each_own, IsTalliedByName}
use Rattle.lobby_loop.proofs.places.each_own.Given as goal

abbrev pub invariant-loop-place : goal.invariant-loop-place
invariant-loop-place l =
    (each_own l.all l.fn.places ≡ each_own (drop l.place-index l.all) l.places) × IsTalliedByName l.tally l.places
