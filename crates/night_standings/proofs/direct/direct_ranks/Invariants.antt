use Rattle.std.proofs.Common.{◌≡◌, ◌++◌, map, drop}
use Rattle.night_standings.specs.Places as spec
use Rattle.night_standings.proofs.direct.direct_ranks.Given as goal

abbrev pub invariant-loop-tied : goal.invariant-loop-tied
invariant-loop-tied l =
    l.ranks.items ++ map (spec.direct_rank l.all) (drop l.tied-index l.all) ≡ map (spec.direct_rank l.all) l.all
