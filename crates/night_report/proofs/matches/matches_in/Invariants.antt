use Rattle.std.proofs.Common.{◌≡◌}
use Rattle.night_report.specs.Matches as spec
use Rattle.night_report.proofs.matches.matches_in.Given as goal

abbrev pub invariant-loop-at : goal.invariant-loop-at
invariant-loop-at l = l.matches.items ≡ spec.matches_in l.sides l.round l.at
