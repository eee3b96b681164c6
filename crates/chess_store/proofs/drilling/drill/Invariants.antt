use Rattle.std.proofs.Common.{◌≡◌, ◌≤◌, length}
use Rattle.std.specs.Vec.{vec_capacity}
use Rattle.chess_store.specs.Drill.{AreCases}
use Rattle.chess_store.proofs.drilling.drill.Given as goal

abbrev pub invariant-loop-case : goal.invariant-loop-case
invariant-loop-case l = record {
  within : l.case ≤ 28;
  count : length l.cases.items ≡ l.case;
  room : 28 ≤ vec_capacity l.cases;
  are_cases : AreCases 0 l.cases.items;
}
