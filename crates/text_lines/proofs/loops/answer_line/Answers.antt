use Rattle.std.proofs.Common.{ℕ, List, Option, [], ◌∷◌, refl}
use Rattle.std.proofs.lemmas.Result.{err_from_is_err_and}
use Rattle.text_lines.specs.Texts.{as_text}
use Rattle.text_lines.specs.Turns.{Moment}
use Rattle.text_lines.proofs.TurnLemmas.{took-feed, lost-feed, broke-feed, passed_on}
use Rattle.text_lines.proofs.loops.answer_line.Goals as goal

at : {S : Type 0} → Option (List ℕ) → List ℕ → S → List ℕ → Moment S
at written ready answerer held = record { written = written; ready = ready; answerer = answerer; held = held }

pub returns-in_err-say_answer-in-Ok : goal.returns-in_err-say_answer-in-Ok
unfolding at
returns-in_err-say_answer-in-Ok g c =
    let e = err_from_is_err_and c.from_residual.result c.from_residual.ensures.1 in
    let old = at (g.W.Write.contents c.args.writer.now) c.args.ready.now.bytes c.args.answerer.now c.args.line.now in
    let new = at (g.W.Write.contents c.say_answer.new.writer) c.say_answer.new.ready.bytes c.answer.new.self [] in
    passed_on g.A.Answerer.is_ready g.A.Answerer.answers g.A.Answerer.breaks old new (10 ∷ []) c.from_residual.result
    e.0 e.1
    (lost-feed g.A.Answerer.is_ready g.A.Answerer.answers g.A.Answerer.breaks old new (as_text c.answer.new.said) e.0
    c.requires.unfinished c.in-Ok.ensures.answered c.in_err-say_answer-in-Ok.ensures.loses)

pub returns-in-Ok : goal.returns-in-Ok
unfolding at
returns-in-Ok g c =
    took-feed g.A.Answerer.is_ready g.A.Answerer.answers g.A.Answerer.breaks
    (at (g.W.Write.contents c.args.writer.now) c.args.ready.now.bytes c.args.answerer.now c.args.line.now)
    (at (g.W.Write.contents c.say_answer.new.writer) c.say_answer.new.ready.bytes c.answer.new.self [])
    (as_text c.answer.new.said) c.in-Ok.ensures.ready c.requires.unfinished refl c.in-Ok.ensures.answered
    c.in_ok-say_answer-in-Ok.ensures.says

pub returns : goal.returns
unfolding at
returns g c =
    broke-feed g.A.Answerer.is_ready g.A.Answerer.answers g.A.Answerer.breaks
    (at (g.W.Write.contents c.args.writer.now) c.args.ready.now.bytes c.args.answerer.now c.args.line.now)
    c.answer.new.self [] c.in-Err.fault c.requires.unfinished c.in-Err.ensures.broken
