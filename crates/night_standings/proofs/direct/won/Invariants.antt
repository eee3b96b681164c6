use Rattle.std.proofs.Common.{◌≡◌, ◌+◌, ◌*◌, ◌≤◌, drop, sum_by}
use Rattle.night_standings.specs.Places as spec
use Rattle.night_standings.proofs.direct.won.Given as goal

abbrev pub invariant-loop-cell : goal.invariant-loop-cell
invariant-loop-cell l =
    record {
      so_far : l.won + sum_by (spec.won_in l.places l.place) (drop l.cell-index l.cells) ≡ sum_by (spec.won_in l.places l.place) l.cells;
      few : l.won ≤ 255 * l.cell-index;
    }
