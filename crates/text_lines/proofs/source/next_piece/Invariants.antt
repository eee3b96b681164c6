-- Reads that were interrupted took nothing.
use Rattle.std.proofs.Common.{◌≡◌, ◌+◌}
use Rattle.std.specs.Io.KnownBytes.{Keeps}
use Rattle.text_lines.proofs.source.next_piece.Given as goal

abbrev pub invariant-loop : goal.invariant-loop
invariant-loop g l = record {
  kept : Keeps (g.R.Read.remaining l.fn.reader) (g.R.Read.remaining l.reader);
  works : l.reads.has_failed ≡ l.fn.reads.has_failed;
  fewer : l.reads.left + 1 ≡ l.fn.reads.left;
}
