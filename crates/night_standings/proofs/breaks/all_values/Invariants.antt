use Rattle.std.proofs.Common.{◌≡◌, map}
use Rattle.night_standings.specs.Breaks as spec
use Rattle.night_standings.proofs.breaks.all_values.Given as goal

abbrev pub invariant-loop-at : goal.invariant-loop-at
invariant-loop-at l = l.all.items ≡ spec.all_values l.by.system l.by.criterion l.scores (map (λ round. round.items) l.rounds) l.at
