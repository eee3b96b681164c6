use Rattle.std.proofs.Common.{◌≡◌, take, map}
use Rattle.sector_dev.specs.Crash.{left_by}
use Rattle.sector_dev.specs.Memory.{writes_of}
use Rattle.sector_dev.proofs.memory.redo_as.Given as goal

abbrev pub invariant-loop-place : goal.invariant-loop-place
invariant-loop-place g l =
    l.sectors ≡ left_by l.initial.sectors (writes_of (take l.place l.calls)) (map g.F.TellsFate.fate_of l.fates)
