-- So many lines end here.
use Rattle.std.proofs.Common.{◌≤◌, length, take}
use Rattle.chess_sockets.specs.Portions.{AreLines}
use Rattle.chess_sockets.proofs.incoming.end_of_lines.Given as goal

abbrev pub invariant-loop : goal.invariant-loop
invariant-loop l = (l.first ≤ l.end) × (l.end ≤ length l.bytes) × AreLines l.counter (take l.end l.bytes)
