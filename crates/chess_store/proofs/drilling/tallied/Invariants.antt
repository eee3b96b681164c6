use Rattle.std.proofs.Common.{◌≤◌, length, take}
use Rattle.chess_store.specs.Drill.{IsTallyOf}
use Rattle.chess_store.proofs.drilling.tallied.Given as goal

abbrev pub invariant-loop-case : goal.invariant-loop-case
invariant-loop-case l = record {
  within : l.case-index ≤ length l.cases;
  so_far : IsTallyOf (take l.case-index l.cases) l.tally;
}
