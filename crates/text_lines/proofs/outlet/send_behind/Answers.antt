use Rattle.std.specs.Prelude.{ℕ, ◌≡◌, ◌<◌, List, [], ◌++◌, length}
use Rattle.std.specs.Io.KnownBytes.{Appends}
use Rattle.std.proofs.Common.{refl}
use Rattle.std.proofs.lemmas.Result.{on_ok_weaker}
use Rattle.text_lines.proofs.Writes.{on_err, map_err, loses-more, loses-front, loses-behind, says-behind}
use Rattle.text_lines.specs.Outlets.{Says, Loses}
use Rattle.text_lines.proofs.outlet.send_behind.Goals as goal

pub returns-in_err-hand_out-clause-loses : goal.returns-in_err-hand_out-clause-loses
returns-in_err-hand_out-clause-loses g c =
    let now = g.W.Write.contents c.args.writer.now in
    let new = g.W.Write.contents c.hand_out.new.writer in
    on_err c.from_residual.result (Loses now c.args.ready.now.bytes c.args.text.now new)
    (loses-more now new c.args.ready.now.bytes [] c.args.text.now c.in_err-hand_out.ensures.loses)

pub returns-clause-says : goal.returns-clause-says
returns-clause-says g c =
    let now = g.W.Write.contents c.args.writer.now in
    let mid = g.W.Write.contents c.hand_out.new.writer in
    let new = g.W.Write.contents c.send.new.writer in
    let text = c.args.text.now in
    let ready = c.args.ready.now.bytes in
    let left = c.hand_out.new.ready.bytes in
    on_ok_weaker {P = Appends mid new text} {Q = Says now ready text new left} c.send.result
    (λ sent. says-behind now mid new ready left text c.in_ok-hand_out.ensures.says c.in_ok-hand_out.ensures.empty sent)
    c.send.ensures.whole

pub returns-clause-loses : goal.returns-clause-loses
returns-clause-loses g c =
    let now = g.W.Write.contents c.args.writer.now in
    let mid = g.W.Write.contents c.hand_out.new.writer in
    let new = g.W.Write.contents c.send.new.writer in
    let text = c.args.text.now in
    let ready = c.args.ready.now.bytes in
    map_err c.send.result
    ((front : List ℕ) × (rest : List ℕ) × (text ≡ front ++ rest) × (0 < length rest) × Appends mid new front)
    (Loses now ready text new)
    (λ front. loses-behind now mid new ready text c.in_ok-hand_out.ensures.says (loses-front mid new [] text front refl))
    c.send.ensures.front
