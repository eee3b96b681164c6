-- Those so far are done, and the others are as they were.
use Rattle.std.proofs.Common.{◌≡◌, ◌++◌, map, take, drop}
use Rattle.lobby_table.specs.Rooms.{left_if}
use Rattle.lobby_table.proofs.rooms.note_left.Given as goal

abbrev pub invariant-loop-one : goal.invariant-loop-one
invariant-loop-one l =
    map (left_if l.before l.after) l.fn.all
    ≡ take l.one-index l.all ++ map (left_if l.before l.after) (drop l.one-index l.all)
