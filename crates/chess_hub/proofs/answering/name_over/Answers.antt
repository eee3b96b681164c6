use Rattle.std.proofs.Common.{◌∙◌, sym, ap, take, ◌++◌, ◌∷◌, []}
use Rattle.std.proofs.lemmas.List.{take_more}
use Rattle.chess_hub.proofs.NameLemmas.{name-step}
use Rattle.chess_hub.proofs.answering.name_over.Goals as goal

pub loop-line-preserved : goal.loop-line-preserved
loop-line-preserved c names e =
    let lines = c.args.lines.now in
    let i = c.loop-line.line-index in
    let t = c.line-item.result in
    c.name_after-name.ensures ∙ sym (name-step c.args.at names lines i c.args.sid t c.loop-line.name
    (take_more lines i t c.loop-line-test.true ∙ ap (λ x. take i lines ++ x ∷ []) (sym c.line-item.is))
    (c.loop-line.invariant names e))
