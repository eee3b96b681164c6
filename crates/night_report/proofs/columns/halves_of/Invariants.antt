use Rattle.std.proofs.Common.{◌≡◌, ◌+◌, ◌*◌, ◌≤◌, map, drop}
use Rattle.night_report.specs.Report.{halves_in}
use Rattle.night_report.proofs.columns.halves_of.Given as goal

abbrev pub invariant-loop-at : goal.invariant-loop-at
invariant-loop-at l = record {
  so_far : l.halves + halves_in l.number (map (λ round. round.items) (drop l.at l.rounds))
      ≡ halves_in l.number (map (λ round. round.items) l.rounds);
  few : l.halves ≤ 2 * l.at;
}
