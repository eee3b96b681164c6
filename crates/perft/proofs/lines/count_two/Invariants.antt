use Rattle.std.proofs.Common.{take}
use Rattle.perft.proofs.Through.{HasLinesThrough}
use Rattle.perft.proofs.lines.count_two.Given as goal

abbrev pub invariant-loop-mv : goal.invariant-loop-mv
invariant-loop-mv l = HasLinesThrough l.board (take l.mv-index l.mv-items) 1 l.count
