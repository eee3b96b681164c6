-- A row of CSV.
use Rattle.std.specs.Prelude.{ℕ, List}
use Rattle.std.specs.String.{string_bytes}
use Rattle.csv.specs.Writing as kit
use Rattle.csv.specs.Writing.{default_writer, with_terminator}
use Rattle.csv.specs.declared.parser.Terminator.TheVariants as term
use Rattle.csv.specs.declared.writer.WriterBuilder.{WriterBuilder}
use Rattle.night_report.specs.declared.csv_cells.Cell.{Cell}

-- with commas between the fields, quotes around those that have a comma, a quote or a line's end, and CR LF at its end
abbrev pub setup : WriterBuilder
setup = with_terminator default_writer term.CRLF

abbrev pub row_text : List (List ℕ) → List ℕ
row_text fields = kit.row_text setup fields

-- what stands in a cell
abbrev pub bytes_of : Cell → List ℕ
bytes_of cell = string_bytes cell.text
