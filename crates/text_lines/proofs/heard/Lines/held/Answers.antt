use Rattle.std.proofs.Common.{◌≡◌, ◌∙◌, ◌+◌, ◌-◌, ◌≤◌, ap, sym, drop, length, length-append, arith}
use Rattle.std.proofs.lemmas.List.{length-drop}
use Rattle.text_lines.specs.Heard.{Heard}
use Rattle.text_lines.proofs.heard.Lines.held.Goals as goal

pub returns : goal.returns
returns c =
    let l = c.self.inside in
    let waits : length c.args.self.now.bytes ≡ (length l.whole.items - l.taken) + length l.rest.items =
    ap (λ (h : Heard). length h.bytes) (sym c.self.view_is) ∙ length-append (drop l.taken l.whole.items) l.rest.items
    ∙ ap (λ n. n + length l.rest.items) (length-drop l.taken l.whole.items) in
    let half : l.taken + l.taken ≤ length l.whole.items = c.self.invariant.half in
    record { all = omega arith; half = omega arith }
