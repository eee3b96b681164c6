-- The players are those that the change has handed back, or the message is refused.
use Rattle.std.proofs.Common.{ℕ, List, subst}
use Rattle.std.proofs.lemmas.Result.{on_ok_weaker}
use Rattle.lobby_talk.specs.Talking.{IsMadeIn}
use Rattle.lobby_talk.proofs.said.say_order.Goals as goal

pub returns-clause-changed : goal.returns-clause-changed
returns-clause-changed g c =
    let done = c.change-done.result in
    let before = g.K.KeepsLinks.changed c.args.links.now in
    let after = g.K.KeepsLinks.changed c.change-done.new.self in
    let made = subst (λ (full_name : List ℕ). IsMadeIn c.args.order.now full_name done before after) c.full_said.ensures
    c.change-done.ensures.changed in
    on_ok_weaker c.say_done.result (λ told. (done, made, told)) c.say_done.ensures.told
