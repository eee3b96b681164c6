use Rattle.std.proofs.Common.{◌≡◌, map}
use Rattle.night_standings.specs.Places as spec
use Rattle.night_standings.proofs.direct.settled.Given as goal

abbrev pub invariant-loop-at : goal.invariant-loop-at
invariant-loop-at l =
    l.settled.items ≡ spec.settled (map (λ round. round.items) l.rounds) l.count l.at l.places
