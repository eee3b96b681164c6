use Rattle.std.proofs.Common.{◌≡◌, ◌++◌, drop, map}
use Rattle.std.specs.String.{string_bytes}
use Rattle.night_games.specs.Html as spec
use Rattle.night_games.proofs.html.push_rows.Given as goal

abbrev pub invariant-loop-row : goal.invariant-loop-row
invariant-loop-row l =
    l.out.items ++ spec.rows (map (λ row. map string_bytes row.items) (drop l.row-index l.rows))
    ≡ l.fn.out.items ++ spec.rows (map (λ row. map string_bytes row.items) l.rows)
