use Rattle.std.proofs.Common.{◌≡◌, ◌++◌, map, drop}
use Rattle.night_report.specs.Report.{cells_text}
use Rattle.night_report.proofs.columns.push_cells.Given as goal

abbrev pub invariant-loop-at : goal.invariant-loop-at
invariant-loop-at l =
    l.out.items ++ cells_text l.number (map (λ round. round.items) (drop l.at l.rounds))
    ≡ l.fn.out.items ++ cells_text l.number (map (λ round. round.items) l.rounds)
