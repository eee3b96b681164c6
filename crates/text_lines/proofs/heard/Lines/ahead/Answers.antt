use Rattle.std.proofs.Common.{◌∙◌, ap, sym, drop}
use Rattle.std.proofs.lemmas.List.{take_rest}
use Rattle.text_lines.specs.Lines.{lines_of}
use Rattle.text_lines.specs.Heard.{Heard}
use Rattle.text_lines.proofs.Wholes.{lines-rest_after}
use Rattle.text_lines.proofs.heard.Lines.ahead.Goals as goal

pub returns : goal.returns
returns c =
    let l = c.self.inside in
    ap lines_of (take_rest c.as_slice.result.now l.taken) ∙ ap (λ xs. lines_of (drop l.taken xs)) c.as_slice.ensures.value
    ∙ sym (lines-rest_after (drop l.taken l.whole.items) l.rest.items c.self.invariant.whole c.self.invariant.unfinished)
    ∙ ap (λ (h : Heard). lines_of h.bytes) c.self.view_is
