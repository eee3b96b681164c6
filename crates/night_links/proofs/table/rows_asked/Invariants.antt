use Rattle.std.proofs.Common.{◌≡◌, ◌++◌, drop, map}
use Rattle.night_links.specs.Asked as spec
use Rattle.night_links.proofs.table.rows_asked.Given as goal

abbrev pub invariant-loop-line : goal.invariant-loop-line
invariant-loop-line l =
    map (λ row. row.now) l.rows.items
    ++ spec.rows_asked l.told l.news (map (λ line. line.now) (drop l.line-index l.lines))
    ≡ spec.rows_asked l.told l.news (map (λ line. line.now) l.lines)
