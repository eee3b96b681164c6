use Rattle.std.proofs.Common.{length}
use Rattle.chess_table.proofs.ListLemmas.{HoldsSoFar, LeftToo}
use Rattle.chess_table.proofs.parts.listing.read_games.Given as goal

abbrev pub invariant-loop-rest : goal.invariant-loop-rest
invariant-loop-rest l = record {
  so_far : HoldsSoFar l.fn.records l.rest l.games.items;
  left : LeftToo l.fn.records l.rest;
}

abbrev pub decreases-loop-rest : goal.decreases-loop-rest
decreases-loop-rest l = length l.rest
