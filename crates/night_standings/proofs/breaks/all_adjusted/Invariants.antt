use Rattle.std.proofs.Common.{◌≡◌, map}
use Rattle.night_standings.specs.Breaks as spec
use Rattle.night_standings.proofs.breaks.all_adjusted.Given as goal

abbrev pub invariant-loop-at : goal.invariant-loop-at
invariant-loop-at l = l.all.items ≡ spec.all_adjusted l.system (map (λ round. round.items) l.rounds) l.at
