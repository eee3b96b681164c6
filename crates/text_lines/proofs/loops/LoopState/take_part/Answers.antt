use Rattle.std.proofs.Common.{◌<◌, ◌+◌, length, arith, refl}
use Rattle.std.proofs.lemmas.Result.{err_from_is_err_and}
use Rattle.text_lines.specs.Turns.{moment_of}
use Rattle.text_lines.proofs.TurnLemmas.{took-long, lost-long, passed_on}
use Rattle.text_lines.proofs.loops.LoopState.take_part.Goals as goal

pub returns-in_err-say : goal.returns-in_err-say
returns-in_err-say g c =
    let e = err_from_is_err_and c.from_residual.result c.from_residual.ensures.1 in
    let old = moment_of c.args.self.now (g.W.Write.contents c.args.writer.now) in
    let new = record old { written = g.W.Write.contents c.say.new.writer; ready = c.say.new.ready.bytes } in
    let part = c.args.part.now in
    let long : 255 < length old.held + length part = omega arith in
    passed_on g.A.Answerer.is_ready g.A.Answerer.answers g.A.Answerer.breaks old new part c.from_residual.result e.0 e.1
    (lost-long g.A.Answerer.is_ready g.A.Answerer.answers g.A.Answerer.breaks old new part e.0 refl
    c.requires.unfinished c.requires.no_feed long c.in_err-say.ensures.loses)

pub returns-then-remaining_capacity-part : goal.returns-then-remaining_capacity-part
returns-then-remaining_capacity-part g c =
    let old = moment_of c.args.self.now (g.W.Write.contents c.args.writer.now) in
    let new = record old { written = g.W.Write.contents c.say.new.writer; ready = c.say.new.ready.bytes } in
    let part = c.args.part.now in
    let long : 255 < length old.held + length part = omega arith in
    took-long g.A.Answerer.is_ready g.A.Answerer.answers g.A.Answerer.breaks old new part refl c.requires.unfinished
    c.requires.no_feed long c.in_ok-say.ensures.says
