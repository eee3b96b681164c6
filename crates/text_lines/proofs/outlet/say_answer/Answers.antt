use Rattle.std.specs.Prelude.{ℕ, ◌≡◌, List, [], ◌∷◌, ◌++◌}
use Rattle.std.proofs.Common.{subst}
use Rattle.std.proofs.lemmas.Result.{on_ok_weaker}
use Rattle.text_lines.proofs.Writes.{on_err, map_err, loses-more, says-says, says-loses, says-answer, loses-answer}
use Rattle.text_lines.specs.Texts.{as_text, body_of}
use Rattle.text_lines.specs.Outlets.{Says, Loses}
use Rattle.text_lines.proofs.outlet.say_answer.Given.{Over}
use Rattle.text_lines.proofs.outlet.say_answer.Goals.{After-say_body}
use Rattle.text_lines.proofs.outlet.say_answer.Goals as goal

pub returns-in_err-say-clause-loses : goal.returns-in_err-say-clause-loses
returns-in_err-say-clause-loses g c =
    let now = g.W.Write.contents c.args.writer.now in
    let new = g.W.Write.contents c.say.new.writer in
    let line = c.args.answer.now.line.bytes in
    let ready = c.args.ready.now.bytes in
    let same : c.as_str.result.now ≡ line = c.as_str.ensures.value in
    on_err c.from_residual.result (Loses now ready (as_text c.args.answer.now) new)
    (loses-more now new ready line (10 ∷ body_of c.args.answer.now.body)
    (subst (λ (x : List ℕ). Loses now ready x new) same c.in_err-say.ensures.loses))

pub returns-in_err-say-2-clause-loses : goal.returns-in_err-say-2-clause-loses
returns-in_err-say-2-clause-loses g c =
    let now = g.W.Write.contents c.args.writer.now in
    let mid = g.W.Write.contents c.say.new.writer in
    let new = g.W.Write.contents c.say-2.new.writer in
    let line = c.args.answer.now.line.bytes in
    let body = body_of c.args.answer.now.body in
    let ready = c.args.ready.now.bytes in
    let same : c.as_str.result.now ≡ line = c.as_str.ensures.value in
    let first : Says now ready line mid c.say.new.ready.bytes = subst
    (λ (x : List ℕ). Says now ready x mid c.say.new.ready.bytes) same c.in_ok-say.ensures.says in
    on_err c.from_residual-in_err-say-2.result (Loses now ready (as_text c.args.answer.now) new)
    (loses-answer now new ready line body (loses-more now new ready (line ++ 10 ∷ []) body
    (says-loses now mid new ready c.say.new.ready.bytes line (10 ∷ []) first c.in_err-say-2.ensures.loses)))

-- the line of the answer was said
line_said : (g : Over) (c : After-say_body g) → Says (g.W.Write.contents c.args.writer.now) c.args.ready.now.bytes
    (c.args.answer.now.line.bytes ++ 10 ∷ []) (g.W.Write.contents c.say-2.new.writer) c.say-2.new.ready.bytes
line_said g c =
    let now = g.W.Write.contents c.args.writer.now in
    let mid = g.W.Write.contents c.say.new.writer in
    let line = c.args.answer.now.line.bytes in
    let ready = c.args.ready.now.bytes in
    let r = c.say.new.ready.bytes in
    let same : c.as_str.result.now ≡ line = c.as_str.ensures.value in
    says-says now mid (g.W.Write.contents c.say-2.new.writer) ready r c.say-2.new.ready.bytes line (10 ∷ [])
    (subst (λ (x : List ℕ). Says now ready x mid r) same c.in_ok-say.ensures.says) c.in_ok-say-2.ensures.says

pub returns-clause-says : goal.returns-clause-says
returns-clause-says g c =
    let now = g.W.Write.contents c.args.writer.now in
    let feed = g.W.Write.contents c.say-2.new.writer in
    let new = g.W.Write.contents c.say_body.new.writer in
    let line = c.args.answer.now.line.bytes in
    let body = body_of c.args.answer.now.body in
    let ready = c.args.ready.now.bytes in
    let s = c.say-2.new.ready.bytes in
    let t = c.say_body.new.ready.bytes in
    on_ok_weaker {P = Says feed s body new t} {Q = Says now ready (as_text c.args.answer.now) new t} c.say_body.result
    (λ last. says-answer now new ready t line body (says-says now feed new ready s t (line ++ 10 ∷ []) body
    (line_said g (goal.at.returns-clause-says g c).After-say_body) last))
    c.say_body.ensures.says

pub returns-clause-loses : goal.returns-clause-loses
returns-clause-loses g c =
    let now = g.W.Write.contents c.args.writer.now in
    let new = g.W.Write.contents c.say_body.new.writer in
    let body = body_of c.args.answer.now.body in
    let said = line_said g (goal.at.returns-clause-loses g c).After-say_body in
    map_err c.say_body.result (Loses (g.W.Write.contents c.say-2.new.writer) c.say-2.new.ready.bytes body new)
    (Loses now c.args.ready.now.bytes (as_text c.args.answer.now) new)
    (λ last. loses-answer now new c.args.ready.now.bytes c.args.answer.now.line.bytes body
    (says-loses now _ new c.args.ready.now.bytes _ _ body said last))
    c.say_body.ensures.loses
