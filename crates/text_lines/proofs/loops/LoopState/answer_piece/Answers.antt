use Rattle.std.proofs.Common.{ℕ, List, [], sym, subst}
use Rattle.std.proofs.lemmas.Result.{err_from_is_err_and}
use Rattle.text_lines.specs.Outlets.{Says}
use Rattle.text_lines.specs.Turns.{moment_of}
use Rattle.text_lines.proofs.TurnLemmas.{then-handed, then-lost, passed_on}
use Rattle.text_lines.proofs.loops.LoopState.answer_piece.Goals as goal

pub returns-in_err-hand_out-clause-taken : goal.returns-in_err-hand_out-clause-taken
returns-in_err-hand_out-clause-taken g c =
    let e = err_from_is_err_and c.from_residual-in_err-hand_out.result c.from_residual-in_err-hand_out.ensures.1 in
    let old = moment_of c.args.self.now (g.W.Write.contents c.args.writer.now) in
    let took = moment_of c.take_piece.new.self (g.W.Write.contents c.take_piece.new.writer) in
    let written = g.W.Write.contents c.hand_out.new.writer in
    let left = c.hand_out.new.ready.bytes in
    let new = record took { written = written; ready = left } in
    let piece = c.args.piece.now in
    passed_on g.A.Answerer.is_ready g.A.Answerer.answers g.A.Answerer.breaks old new piece
    c.from_residual-in_err-hand_out.result e.0 e.1
    (then-lost g.A.Answerer.is_ready g.A.Answerer.answers g.A.Answerer.breaks old took written left piece
    c.in_ok-flow.flow e.0 c.in_ok-flow.ensures c.in_err-hand_out.ensures.loses)

pub returns-clause-taken : goal.returns-clause-taken
returns-clause-taken g c =
    let old = moment_of c.args.self.now (g.W.Write.contents c.args.writer.now) in
    let took = moment_of c.take_piece.new.self (g.W.Write.contents c.take_piece.new.writer) in
    let written = g.W.Write.contents c.hand_out.new.writer in
    then-handed g.A.Answerer.is_ready g.A.Answerer.answers g.A.Answerer.breaks old took written
    c.hand_out.new.ready.bytes c.args.piece.now c.in_ok-flow.flow c.in_ok-flow.ensures
    (subst (λ (x : List ℕ). Says took.written took.ready [] written x) (sym c.in_ok-hand_out.ensures.empty)
    c.in_ok-hand_out.ensures.says)
