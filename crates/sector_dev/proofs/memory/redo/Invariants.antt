use Rattle.std.proofs.Common.{◌≡◌, take}
use Rattle.sector_dev.specs.Image.{applied}
use Rattle.sector_dev.specs.Memory.{writes_of}
use Rattle.sector_dev.proofs.memory.redo.Given as goal

abbrev pub invariant-loop-call : goal.invariant-loop-call
invariant-loop-call l = l.sectors ≡ applied l.initial.sectors (writes_of (take l.call-index l.calls))
