use Rattle.std.proofs.Common.{◌≡◌, drop}
use Rattle.night_report.specs.Matches as spec
use Rattle.night_report.proofs.matches.bye_of.Given as goal

abbrev pub invariant-loop-meeting : goal.invariant-loop-meeting
invariant-loop-meeting l =
    spec.bye_of l.sides l.team (drop l.meeting-index l.round) ≡ spec.bye_of l.sides l.team l.round
