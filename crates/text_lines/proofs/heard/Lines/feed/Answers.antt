use Rattle.std.proofs.Common.{◌∙◌, ap, sym, subst}
use Rattle.text_lines.specs.Heard.{heard_more}
use Rattle.text_lines.specs.Holding.{held_by, IsHolding}
use Rattle.text_lines.proofs.Wholes.{holding-more, held-more}
use Rattle.text_lines.proofs.heard.Lines.feed.Goals as goal

pub invariant_of-self-2 : goal.invariant_of-self-2
invariant_of-self-2 c =
    let l = c.self.inside in
    let t = c.take_piece-self-inside in
    holding-more c.reserve.new.self.items c.args.piece.now l.rest.items t.new.whole.items t.new.rest.items l.taken l.is_long
    t.result (subst (λ xs. IsHolding xs l.taken l.rest.items l.is_long) (sym c.in_ok-reserve.ensures.items)
    c.self.invariant) t.ensures

pub returns-clause-fed : goal.returns-clause-fed
returns-clause-fed c =
    let l = c.self.inside in
    let t = c.take_piece-self-inside in
    let items = c.reserve.new.self.items in
    held-more items c.args.piece.now l.rest.items t.new.whole.items t.new.rest.items l.taken l.is_long
    t.result (subst (λ xs. IsHolding xs l.taken l.rest.items l.is_long) (sym c.in_ok-reserve.ensures.items)
    c.self.invariant) t.ensures
    ∙ ap (λ h. heard_more h c.args.piece.now)
    (ap (λ xs. held_by xs l.taken l.rest.items l.is_long) c.in_ok-reserve.ensures.items ∙ c.self.view_is)
