use Rattle.std.proofs.Common.{◌∙◌, Option, ap, sym, refl, subst}
use Rattle.lobby_words.specs.declared.planning.Order.{Order}
use Rattle.lobby_desk.specs.declared.desk.Desk.{Desk}
use Rattle.lobby_desk.specs.Who.{order_asked}
use Rattle.lobby_talk.specs.Talking.{IsOrdered}
use Rattle.lobby_talk.proofs.Saying.{said_says}
use Rattle.lobby_talk.proofs.said.say_plain.Goals as goal

pub returns-in_ok-said-in-None-clause-says : goal.returns-in_ok-said-in-None-clause-says
returns-in_ok-said-in-None-clause-says g c =
    said_says c.args.shown.now c.args.number c.args.at c.args.talk.now c.said.new.self c.in_ok-said-in-None.ensures.moves

pub returns-in_ok-said-in-None-clause-changed : goal.returns-in_ok-said-in-None-clause-changed
returns-in_ok-said-in-None-clause-changed g c =
    let known = g.K.KeepsLinks.changed c.args.links.now in
    let asked =
    c.order.ensures ∙ ap (λ (d : Desk). order_asked d c.args.number c.args.shown.now c.args.at) c.desk.ensures in
    subst (λ (order : Option Order). IsOrdered order c.args.number c.args.shown.now known known c.args.talk.now c.said.new.self)
    (sym c.in-None.is ∙ asked) refl
