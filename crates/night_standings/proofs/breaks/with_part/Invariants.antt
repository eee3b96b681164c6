use Rattle.std.proofs.Common.{◌≡◌, ◌++◌, ◌≤◌, filter, drop, length}
use Rattle.night_standings.specs.Breaks as spec
use Rattle.night_standings.proofs.breaks.with_part.Given as goal

abbrev pub invariant-loop-cell : goal.invariant-loop-cell
invariant-loop-cell l = record {
  so_far : l.kept.items ++ filter (spec.has_part l.by.system l.by.criterion) (drop l.cell-index l.cells)
      ≡ filter (spec.has_part l.by.system l.by.criterion) l.cells;
  few : length l.kept.items ≤ l.cell-index;
}
