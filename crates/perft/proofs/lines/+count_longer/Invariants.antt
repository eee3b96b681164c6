use Rattle.std.proofs.Common.{◌-◌, take}
use Rattle.perft.proofs.Through.{HasLinesThrough}
use Rattle.perft.proofs.lines.+count_longer.Given as goal

abbrev pub decreases-count_longer : goal.decreases-count_longer
decreases-count_longer l = l.depth

abbrev pub invariant-loop-mv : goal.invariant-loop-mv
invariant-loop-mv l = HasLinesThrough l.fn.board (take l.mv-index l.mv-items) (l.depth - 1) l.count
