use Rattle.std.proofs.Common.{◌≡◌, ◌++◌, map, drop}
use Rattle.night_standings.specs.Places as spec
use Rattle.night_standings.proofs.places.places_in.Given as goal

abbrev pub invariant-loop-rank : goal.invariant-loop-rank
invariant-loop-rank l =
    l.places.items ++ map (spec.place_in l.ranks) (drop l.rank-index l.ranks) ≡ map (spec.place_in l.ranks) l.ranks
