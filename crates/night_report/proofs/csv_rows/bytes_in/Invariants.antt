use Rattle.std.proofs.Common.{◌≡◌, ◌++◌, drop, map}
use Rattle.night_report.specs.CsvRows as spec
use Rattle.night_report.proofs.csv_rows.bytes_in.Given as goal

abbrev pub invariant-loop-cell : goal.invariant-loop-cell
invariant-loop-cell l =
    map (λ field. field.now) l.fields.items ++ map spec.bytes_of (drop l.cell-index l.cells) ≡ map spec.bytes_of l.fn.cells
