use Rattle.std.proofs.Common.{◌≡◌, map}
use Rattle.night_report.specs.Matches as spec
use Rattle.night_report.proofs.matches.all_board_points.Given as goal

abbrev pub invariant-loop-at : goal.invariant-loop-at
invariant-loop-at l = l.all.items ≡ spec.all_points l.sides (map (λ round. round.items) l.rounds) l.at
