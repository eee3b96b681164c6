-- What was read so far, and what it wrote; and how many pieces may still come.
use Rattle.std.proofs.Common.{◌≡◌}
use Rattle.text_lines.specs.Turns.{moment_of}
use Rattle.text_lines.proofs.EndLemmas.{Stands}
use Rattle.text_lines.proofs.loops.LoopState.answer_all.Given as goal

abbrev pub invariant-loop-count : goal.invariant-loop-count
invariant-loop-count g l = record {
  stands : Stands g.A.Answerer.is_ready g.A.Answerer.answers (g.R.Read.remaining l.fn.reader)
      (g.R.Read.remaining l.reader) (g.W.Write.contents l.fn.writer) l.fn.self.answerer
      (moment_of l.self (g.W.Write.contents l.writer));
  works : l.reads.has_failed ≡ l.fn.reads.has_failed;
}

abbrev pub decreases-loop-count : goal.decreases-loop-count
decreases-loop-count g l = l.reads.left
