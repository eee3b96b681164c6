use Rattle.std.proofs.Common.{◌≡◌, [], ◌∷◌, ◌++◌, Ok, Err, arith, rules}
use Rattle.std.proofs.lemmas.Result.{err_from_is_err_and}
use Rattle.std.proofs.lemmas.List.{nil_from_length}
use Rattle.text_lines.specs.Turns.{moment_of}
use Rattle.text_lines.specs.declared.loops.Flow.TheVariants.{TooLong, Broken}
use Rattle.text_lines.proofs.TurnLemmas.{took-whole, flow_is, then-takes, over, passed_on}
use Rattle.text_lines.proofs.loops.LoopState.take_line.Goals as goal

pub returns-then-part-le-LINE_ROOM : goal.returns-then-part-le-LINE_ROOM
returns-then-part-le-LINE_ROOM g c =
    let old = moment_of c.args.self.now (g.W.Write.contents c.args.writer.now) in
    let new = record old {
      written = g.W.Write.contents c.answer_line.new.writer;
      ready = c.answer_line.new.ready.bytes;
      answerer = c.answer_line.new.answerer;
    } in
    let none : old.held ≡ [] = nil_from_length old.held (search rules) in
    took-whole g.A.Answerer.is_ready g.A.Answerer.answers g.A.Answerer.breaks old new c.args.part.now
    c.answer_line.result c.requires.asked none none
    (record { no_feed = c.requires.no_feed; short = omega arith }) c.answer_line.ensures

pub returns-in_err-take_part : goal.returns-in_err-take_part
returns-in_err-take_part g c =
    let e = err_from_is_err_and c.from_residual.result c.from_residual.ensures.1 in
    let old = moment_of c.args.self.now (g.W.Write.contents c.args.writer.now) in
    let took = moment_of c.take_part.new.self (g.W.Write.contents c.take_part.new.writer) in
    let part = c.args.part.now in
    passed_on g.A.Answerer.is_ready g.A.Answerer.answers g.A.Answerer.breaks old took (part ++ 10 ∷ [])
    c.from_residual.result e.0 e.1
    (over g.A.Answerer.is_ready g.A.Answerer.answers g.A.Answerer.breaks old took part (10 ∷ []) (Err e.0) tt
    c.in_err-take_part.ensures)

pub returns-in-Open : goal.returns-in-Open
returns-in-Open g c =
    let old = moment_of c.args.self.now (g.W.Write.contents c.args.writer.now) in
    let took = moment_of c.take_part.new.self (g.W.Write.contents c.take_part.new.writer) in
    let new = moment_of c.end_line.new.self (g.W.Write.contents c.end_line.new.writer) in
    let part = c.args.part.now in
    then-takes g.A.Answerer.is_ready g.A.Answerer.answers g.A.Answerer.breaks old took new part (10 ∷ [])
    c.end_line.result
    (flow_is g.A.Answerer.is_ready g.A.Answerer.answers g.A.Answerer.breaks old took part _ _ c.in-Open.is
    c.in_ok-take_part.ensures)
    c.end_line.ensures

pub returns-in-TooLong : goal.returns-in-TooLong
returns-in-TooLong g c =
    let old = moment_of c.args.self.now (g.W.Write.contents c.args.writer.now) in
    let took = moment_of c.take_part.new.self (g.W.Write.contents c.take_part.new.writer) in
    let part = c.args.part.now in
    over g.A.Answerer.is_ready g.A.Answerer.answers g.A.Answerer.breaks old took part (10 ∷ []) (Ok TooLong) tt
    (flow_is g.A.Answerer.is_ready g.A.Answerer.answers g.A.Answerer.breaks old took part _ _ c.in-TooLong.is
    c.in_ok-take_part.ensures)

pub returns-in-Broken : goal.returns-in-Broken
returns-in-Broken g c =
    let old = moment_of c.args.self.now (g.W.Write.contents c.args.writer.now) in
    let took = moment_of c.take_part.new.self (g.W.Write.contents c.take_part.new.writer) in
    let part = c.args.part.now in
    over g.A.Answerer.is_ready g.A.Answerer.answers g.A.Answerer.breaks old took part (10 ∷ [])
    (Ok (Broken c.in-Broken.fault)) tt
    (flow_is g.A.Answerer.is_ready g.A.Answerer.answers g.A.Answerer.breaks old took part _ _ c.in-Broken.is
    c.in_ok-take_part.ensures)
