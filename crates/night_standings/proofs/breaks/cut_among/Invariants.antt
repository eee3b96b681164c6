use Rattle.std.proofs.Common.{◌≡◌, map, filter, drop, None}
use Rattle.night_standings.specs.Breaks as spec
use Rattle.night_standings.proofs.breaks.cut_among.Given as goal

abbrev pub invariant-loop-cell : goal.invariant-loop-cell
invariant-loop-cell l =
    spec.least_from l.found (map (spec.contribution l.scores l.own) (filter (spec.may_be_cut l.has_voluntary) (drop l.cell-index l.cells)))
    ≡ spec.least_from None (map (spec.contribution l.scores l.own) (filter (spec.may_be_cut l.has_voluntary) l.cells))
