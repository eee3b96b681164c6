use Rattle.std.proofs.Common.{◌≡◌, map}
use Rattle.night_standings.specs.Places as spec
use Rattle.night_standings.proofs.direct.all_tied.Given as goal

abbrev pub invariant-loop-at : goal.invariant-loop-at
invariant-loop-at l =
    l.all.items ≡ spec.all_tied (map (λ round. round.items) l.rounds) l.places l.count l.at
