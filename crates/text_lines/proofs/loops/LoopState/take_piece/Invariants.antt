-- What was taken so far, and what was said.
use Rattle.std.proofs.Common.{length}
use Rattle.text_lines.specs.Turns.{moment_of}
use Rattle.text_lines.proofs.TurnLemmas.{Through}
use Rattle.text_lines.proofs.loops.LoopState.take_piece.Given as goal

abbrev pub invariant-loop-end : goal.invariant-loop-end
invariant-loop-end g l = Through g.A.Answerer.is_ready g.A.Answerer.answers g.A.Answerer.breaks
    (moment_of l.fn.self (g.W.Write.contents l.fn.writer)) (moment_of l.self (g.W.Write.contents l.writer)) l.piece
    l.rest

abbrev pub decreases-loop-end : goal.decreases-loop-end
decreases-loop-end g l = length l.rest
