use Rattle.std.proofs.Common.{◌≡◌, drop, false}
use Rattle.night_report.specs.Matches as spec
use Rattle.night_report.proofs.matches.is_turned.Given as goal

abbrev pub invariant-loop-meeting : goal.invariant-loop-meeting
invariant-loop-meeting l =
    spec.is_turned l.sides l.one l.other l.turned (drop l.meeting-index l.round)
    ≡ spec.is_turned l.sides l.one l.other false l.round
