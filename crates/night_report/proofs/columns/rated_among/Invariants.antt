use Rattle.std.proofs.Common.{◌≡◌, ◌+◌, ◌≤◌, drop}
use Rattle.night_report.specs.Report.{rated_among}
use Rattle.night_report.proofs.columns.rated_among.Given as goal

abbrev pub invariant-loop-player : goal.invariant-loop-player
invariant-loop-player l = record {
  so_far : l.rated + rated_among (drop l.player-index l.players) ≡ rated_among l.players;
  few : l.rated ≤ l.player-index;
}
