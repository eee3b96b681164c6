use Rattle.std.proofs.Common.{◌≡◌, ◌+◌, ◌*◌, ◌≤◌, drop}
use Rattle.night_standings.specs.Breaks as spec
use Rattle.night_standings.proofs.breaks.adjusted.Given as goal

abbrev pub invariant-loop-at : goal.invariant-loop-at
invariant-loop-at l = record {
  so_far : l.adjusted + spec.adjusted l.system (drop l.at l.cells) ≡ spec.adjusted l.system l.cells;
  few : l.adjusted ≤ 255 * l.at;
}
