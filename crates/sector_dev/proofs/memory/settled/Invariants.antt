use Rattle.std.proofs.Common.{take}
use Rattle.sector_dev.specs.Memory.{IsSettledAt}
use Rattle.sector_dev.proofs.memory.settled.Given as goal

abbrev pub invariant-loop-at : goal.invariant-loop-at
invariant-loop-at l = IsSettledAt (take l.at l.calls) l.settled
