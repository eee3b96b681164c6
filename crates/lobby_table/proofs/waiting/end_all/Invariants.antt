-- Those so far are done, and the others are as they were.
use Rattle.std.proofs.Common.{◌≡◌, ◌++◌, map, take, drop}
use Rattle.lobby_table.specs.Waiting.{over_if}
use Rattle.lobby_table.proofs.waiting.end_all.Given as goal

abbrev pub invariant-loop-one : goal.invariant-loop-one
invariant-loop-one l =
    map (over_if l.game) l.fn.seats ≡ take l.one-index l.seats ++ map (over_if l.game) (drop l.one-index l.seats)
