use Rattle.std.proofs.Common.{◌≡◌, ◌+◌, ◌*◌, ◌≤◌, ◌^◌, drop, sum_by}
use Rattle.night_standings.specs.Breaks as spec
use Rattle.night_standings.proofs.breaks.sonneborn_berger.Given as goal

abbrev pub invariant-loop-cell : goal.invariant-loop-cell
invariant-loop-cell l = record {
  so_far : l.sum + sum_by (spec.worth l.scores l.own) (drop l.cell-index l.cells) ≡ sum_by (spec.worth l.scores l.own) l.cells;
  few : l.sum ≤ 255 * 2 ^ 32 * l.cell-index;
}
