use Rattle.std.proofs.Common.{◌≡◌, drop}
use Rattle.night_report.specs.Matches as spec
use Rattle.night_report.proofs.matches.first_of.Given as goal

abbrev pub invariant-loop-meeting : goal.invariant-loop-meeting
invariant-loop-meeting l =
    spec.first_of l.sides l.team (drop l.meeting-index l.round) ≡ spec.first_of l.sides l.team l.round
