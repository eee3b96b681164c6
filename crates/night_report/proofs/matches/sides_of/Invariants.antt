use Rattle.std.proofs.Common.{◌≡◌}
use Rattle.night_report.specs.Matches as spec
use Rattle.night_report.proofs.matches.sides_of.Given as goal

abbrev pub invariant-loop-at : goal.invariant-loop-at
invariant-loop-at l = l.sides.items ≡ spec.sides_of l.teams l.at
