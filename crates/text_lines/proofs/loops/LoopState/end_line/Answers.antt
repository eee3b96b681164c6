use Rattle.std.proofs.Common.{[], ◌∷◌, refl, Ok, Err}
use Rattle.std.proofs.lemmas.Result.{err_from_is_err_and}
use Rattle.text_lines.specs.Turns.{moment_of}
use Rattle.text_lines.proofs.TurnLemmas.{emptied, passed_on}
use Rattle.text_lines.proofs.loops.LoopState.end_line.Goals as goal

pub returns-in_err-flow : goal.returns-in_err-flow
returns-in_err-flow g c =
    let e = err_from_is_err_and c.from_residual.result c.from_residual.ensures.1 in
    let old = moment_of c.args.self.now (g.W.Write.contents c.args.writer.now) in
    let new = record old {
      written = g.W.Write.contents c.answer_line.new.writer;
      ready = c.answer_line.new.ready.bytes;
      answerer = c.answer_line.new.answerer;
    } in
    let takes = emptied g.A.Answerer.is_ready g.A.Answerer.answers g.A.Answerer.breaks old (record new { held = [] })
    c.as_slice.result.now (10 ∷ []) (Err e.0) c.as_slice.ensures.value refl c.in_err-flow.ensures in
    passed_on g.A.Answerer.is_ready g.A.Answerer.answers g.A.Answerer.breaks old new (10 ∷ []) c.from_residual.result
    e.0 e.1 (record { next = takes.next; came = takes.came })

pub returns : goal.returns
returns g c =
    let old = moment_of c.args.self.now (g.W.Write.contents c.args.writer.now) in
    let new = record old {
      written = g.W.Write.contents c.answer_line.new.writer;
      ready = c.answer_line.new.ready.bytes;
      answerer = c.answer_line.new.answerer;
      held = c.clear.new.self.items;
    } in
    emptied g.A.Answerer.is_ready g.A.Answerer.answers g.A.Answerer.breaks old new c.as_slice.result.now (10 ∷ [])
    (Ok c.in_ok-flow.flow) c.as_slice.ensures.value c.clear.ensures c.in_ok-flow.ensures
