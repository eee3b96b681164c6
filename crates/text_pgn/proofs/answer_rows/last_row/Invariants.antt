use Rattle.std.proofs.Common.{◌≡◌, drop, map}
use denote.Shadow.{shadow}
use denote.Text.{Utf8}
use Rattle.text_pgn.specs.Rows.{last_from, last_row}
use Rattle.text_pgn.proofs.answer_rows.last_row.Given as goal

abbrev pub invariant-loop-row : goal.invariant-loop-row
invariant-loop-row l = record {
  so_far : last_from l.last (map (λ row. row.now) (drop l.row-index l.rest)) ≡ last_row (map (λ row. row.now) l.rows);
  text : shadow (Utf8 l.last);
}
