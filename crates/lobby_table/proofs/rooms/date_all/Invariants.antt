-- Those so far are done, and the others are as they were.
use Rattle.std.proofs.Common.{◌≡◌, ◌++◌, map, take, drop}
use Rattle.lobby_table.specs.Rooms.{dated_of}
use Rattle.lobby_table.proofs.rooms.date_all.Given as goal

abbrev pub invariant-loop-one : goal.invariant-loop-one
invariant-loop-one l = map (dated_of l.at) l.fn.all ≡ take l.one-index l.all ++ map (dated_of l.at) (drop l.one-index l.all)
