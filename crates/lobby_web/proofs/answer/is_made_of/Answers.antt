use Rattle.std.proofs.Common.{ap, sym, ◌∙◌}
use Rattle.std.specs.Str.{bytes_eq}
use Rattle.lobby_web.proofs.OriginLemmas.{follows, differs}
use Rattle.lobby_web.proofs.answer.is_made_of.Goals as goal

pub returns-in-Some : goal.returns-in-Some
returns-in-Some c =
    let e = c.in-Some.ensures.cases in
    c.eq.ensures ∙ ap (λ l. bytes_eq l c.args.end.now) e.1 ∙ follows c.args.text.now c.args.front.now c.args.end.now e.0

pub returns-in-None : goal.returns-in-None
returns-in-None c = sym (differs c.args.text.now c.args.front.now c.args.end.now c.in-None.ensures.cases)
