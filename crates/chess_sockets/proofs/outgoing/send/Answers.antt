use Rattle.std.proofs.Common.{◌++◌, rules, sym, subst, take, ap, ◌∙◌}
use Rattle.std.specs.Io.KnownBytes.{Appends}
use Rattle.std.proofs.KnownBytes.{Appends-trans}
use Rattle.std.proofs.Math.Seq.{take-add}
use Rattle.std.proofs.lemmas.List.{take_rest}
use Rattle.chess_sockets.proofs.outgoing.send.Goals as goal

pub loop-preserved-in-Ok : goal.loop-preserved-in-Ok
loop-preserved-in-Ok g c =
    let old = g.W.Write.contents c.args.writer.now in
    let now = g.W.Write.contents c.loop.writer in
    let new = g.W.Write.contents c.write.new.self in
    let text = c.args.text.now in
    let count = c.loop.count in
    let more = c.in-Ok.more in
    let (within, appended) = c.loop.invariant in (
      search rules,
      subst (Appends old new)
          (ap (λ l. take count text ++ take more l) (take_rest text count) ∙ sym (take-add count more text))
          (Appends-trans old now new _ _ appended c.in-Ok.ensures.bytes),
    )
