use Rattle.std.proofs.Common.{◌≡◌, ◌+◌, ◌*◌, ◌≤◌, map, drop}
use Rattle.night_report.specs.Matches as spec
use Rattle.night_report.proofs.matches.total_points.Given as goal

abbrev pub invariant-loop-at : goal.invariant-loop-at
invariant-loop-at l = record {
  so_far : l.points + spec.total_points l.sides l.team (map (λ round. round.items) (drop l.at l.rounds))
      ≡ spec.total_points l.sides l.team (map (λ round. round.items) l.rounds);
  few : l.points ≤ 19998 * l.at;
}
