use Rattle.std.proofs.Common.{◌≡◌, ◌+◌, ◌*◌, ◌≤◌, drop}
use Rattle.night_standings.specs.Breaks as spec
use Rattle.night_standings.proofs.breaks.points.Given as goal

abbrev pub invariant-loop-cell : goal.invariant-loop-cell
invariant-loop-cell l = record {
  so_far : l.points + spec.points (drop l.cell-index l.cells) ≡ spec.points l.cells;
  few : l.points ≤ 255 * l.cell-index;
}
