use Rattle.std.proofs.Common.{◌≡◌, ◌+◌, drop}
use Rattle.night_report.specs.Matches as spec
use Rattle.night_report.proofs.matches.team_of.Given as goal

abbrev pub invariant-loop-at : goal.invariant-loop-at
invariant-loop-at l = spec.team_from (l.at + 1) (drop l.at l.teams) l.number ≡ spec.team_from 1 l.teams l.number
