use Rattle.std.proofs.Common.{◌≡◌, ◌+◌, ◌*◌, ◌≤◌, drop}
use Rattle.night_report.specs.Matches as spec
use Rattle.night_report.proofs.matches.board_points.Given as goal

abbrev pub invariant-loop-meeting : goal.invariant-loop-meeting
invariant-loop-meeting l = record {
  so_far : l.points + spec.board_points l.sides l.team (drop l.meeting-index l.round)
      ≡ spec.board_points l.sides l.team l.round;
  few : l.points ≤ 2 * l.meeting-index;
}
