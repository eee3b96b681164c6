use Rattle.std.proofs.Common.{◌≡◌, ◌++◌, drop, map}
use Rattle.night_report.proofs.csv_rows.bytes_of_names.Given as goal

abbrev pub invariant-loop-name : goal.invariant-loop-name
invariant-loop-name l =
    map (λ field. field.now) l.fields.items ++ map (λ name. name.now) (drop l.name-index l.names) ≡ map (λ name. name.now) l.fn.names
