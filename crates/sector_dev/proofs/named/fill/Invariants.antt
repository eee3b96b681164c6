use Rattle.std.proofs.Common.{◌-◌}
use Rattle.sector_dev.proofs.named.fill.Given as goal

abbrev pub decreases-loop-at : goal.decreases-loop-at
decreases-loop-at l = l.wanted - l.at
