use Rattle.std.proofs.Common.{◌≡◌, ◌++◌, map, drop}
use Rattle.night_report.specs.Matches as spec
use Rattle.night_report.proofs.matches.all_matches.Given as goal

abbrev pub invariant-loop-at : goal.invariant-loop-at
invariant-loop-at l =
    map (λ round. round.items) l.all.items
    ++ spec.all_matches l.sides l.count (map (λ round. round.items) (drop l.at l.rounds))
    ≡ spec.all_matches l.sides l.count (map (λ round. round.items) l.rounds)
