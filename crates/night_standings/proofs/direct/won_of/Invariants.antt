use Rattle.std.proofs.Common.{◌≡◌, ◌++◌, map, drop}
use Rattle.night_standings.proofs.direct.won_of.Given as goal

abbrev pub invariant-loop-tied : goal.invariant-loop-tied
invariant-loop-tied l =
    l.won.items ++ map (λ tied. tied.won) (drop l.tied-index l.all) ≡ map (λ tied. tied.won) l.all
