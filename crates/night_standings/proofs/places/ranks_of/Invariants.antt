use Rattle.std.proofs.Common.{◌≡◌}
use Rattle.night_standings.specs.Places as spec
use Rattle.night_standings.proofs.places.ranks_of.Given as goal

abbrev pub invariant-loop-at : goal.invariant-loop-at
invariant-loop-at l =
    l.ranks.items ≡ spec.ranks_of l.places l.values l.at
