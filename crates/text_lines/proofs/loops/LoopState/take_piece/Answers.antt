use Rattle.std.proofs.Common.{[], ◌∷◌, ◌++◌, take, Ok, Err, refl}
use Rattle.std.proofs.lemmas.Result.{err_from_is_err_and}
use Rattle.text_lines.specs.Turns.{moment_of}
use Rattle.text_lines.specs.declared.loops.Flow.TheVariants.{TooLong, Broken}
use Rattle.text_lines.proofs.TurnLemmas.{flow_is, passed_on, through-nothing, through-line, through-end, through-rest}
use Rattle.text_lines.proofs.loops.LoopState.take_piece.Goals as goal

pub loop-end-init : goal.loop-end-init
loop-end-init g c = through-nothing g.A.Answerer.is_ready g.A.Answerer.answers g.A.Answerer.breaks
    (moment_of c.args.self.now (g.W.Write.contents c.args.writer.now)) c.args.piece.now c.requires.asked
    c.requires.unfinished

pub loop-end-preserved : goal.loop-end-preserved
loop-end-preserved g c =
    let old = moment_of c.args.self.now (g.W.Write.contents c.args.writer.now) in
    let now = moment_of c.loop-end.self (g.W.Write.contents c.loop-end.writer) in
    let new = moment_of c.take_line.new.self (g.W.Write.contents c.take_line.new.writer) in
    through-line g.A.Answerer.is_ready g.A.Answerer.answers g.A.Answerer.breaks old now new c.args.piece.now
    c.loop-end.rest.now _ c.in-Some.end c.loop-end.invariant
    (flow_is g.A.Answerer.is_ready g.A.Answerer.answers g.A.Answerer.breaks now new
    (take c.in-Some.end c.loop-end.rest.now ++ 10 ∷ []) _ _ c.in-Open.is c.in_ok-take_line.ensures)
    c.in-Some.ensures.found.0 c.in-Some.ensures.found.1 refl

pub returns-in-TooLong : goal.returns-in-TooLong
returns-in-TooLong g c =
    let old = moment_of c.args.self.now (g.W.Write.contents c.args.writer.now) in
    let now = moment_of c.loop-end.self (g.W.Write.contents c.loop-end.writer) in
    let new = moment_of c.take_line.new.self (g.W.Write.contents c.take_line.new.writer) in
    through-end g.A.Answerer.is_ready g.A.Answerer.answers g.A.Answerer.breaks old now new c.args.piece.now
    c.loop-end.rest.now c.in-Some.end (Ok TooLong) tt c.loop-end.invariant
    (flow_is g.A.Answerer.is_ready g.A.Answerer.answers g.A.Answerer.breaks now new
    (take c.in-Some.end c.loop-end.rest.now ++ 10 ∷ []) _ _ c.in-TooLong.is c.in_ok-take_line.ensures)
    c.in-Some.ensures.found.0 c.in-Some.ensures.found.1

pub returns-in-Broken : goal.returns-in-Broken
returns-in-Broken g c =
    let old = moment_of c.args.self.now (g.W.Write.contents c.args.writer.now) in
    let now = moment_of c.loop-end.self (g.W.Write.contents c.loop-end.writer) in
    let new = moment_of c.take_line.new.self (g.W.Write.contents c.take_line.new.writer) in
    through-end g.A.Answerer.is_ready g.A.Answerer.answers g.A.Answerer.breaks old now new c.args.piece.now
    c.loop-end.rest.now c.in-Some.end (Ok (Broken c.in-Broken.fault)) tt c.loop-end.invariant
    (flow_is g.A.Answerer.is_ready g.A.Answerer.answers g.A.Answerer.breaks now new
    (take c.in-Some.end c.loop-end.rest.now ++ 10 ∷ []) _ _ c.in-Broken.is c.in_ok-take_line.ensures)
    c.in-Some.ensures.found.0 c.in-Some.ensures.found.1

pub returns-in_err-take_line : goal.returns-in_err-take_line
returns-in_err-take_line g c =
    let e = err_from_is_err_and c.from_residual.result c.from_residual.ensures.1 in
    let old = moment_of c.args.self.now (g.W.Write.contents c.args.writer.now) in
    let now = moment_of c.loop-end.self (g.W.Write.contents c.loop-end.writer) in
    let new = moment_of c.take_line.new.self (g.W.Write.contents c.take_line.new.writer) in
    passed_on g.A.Answerer.is_ready g.A.Answerer.answers g.A.Answerer.breaks old new c.args.piece.now
    c.from_residual.result e.0 e.1
    (through-end g.A.Answerer.is_ready g.A.Answerer.answers g.A.Answerer.breaks old now new c.args.piece.now
    c.loop-end.rest.now c.in-Some.end (Err e.0) tt c.loop-end.invariant c.in_err-take_line.ensures
    c.in-Some.ensures.found.0 c.in-Some.ensures.found.1)

pub returns : goal.returns
returns g c =
    let old = moment_of c.args.self.now (g.W.Write.contents c.args.writer.now) in
    let now = moment_of c.loop-end.self (g.W.Write.contents c.loop-end.writer) in
    let new = moment_of c.take_part.new.self (g.W.Write.contents c.take_part.new.writer) in
    through-rest g.A.Answerer.is_ready g.A.Answerer.answers g.A.Answerer.breaks old now new c.args.piece.now
    c.loop-end.rest.now c.take_part.result c.loop-end.invariant c.take_part.ensures
