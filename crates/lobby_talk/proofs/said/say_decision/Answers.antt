-- What was put is this arbiter's, and told just where it was.
use Rattle.std.proofs.Common.{ℕ, List, ap, ◌∙◌, subst}
use Rattle.std.proofs.lemmas.Result.{on_ok_weaker}
use Rattle.lobby_desk.specs.declared.desk.Desk.{Desk}
use Rattle.lobby_desk.specs.Strangers.{player_at}
use Rattle.lobby_talk.specs.Deciding.{IsPut, name_in}
use Rattle.lobby_talk.proofs.said.say_decision.Goals as goal

pub returns-clause-decided : goal.returns-clause-decided
returns-clause-decided g c =
    let put = c.decide-is_put.result in
    let before = g.K.KeepsLinks.decided c.args.links.now in
    let after = g.K.KeepsLinks.decided c.decide-is_put.new.self in
    let named =
    c.name_in.ensures
    ∙ (ap name_in c.player_at-by.ensures ∙ ap (λ (d : Desk). name_in (player_at d c.args.number)) c.desk.ensures) in
    on_ok_weaker c.say_decided.result (λ told. (
      put,
      subst (λ (by : List ℕ). IsPut put by c.args.shown.now before after) named c.decide-is_put.ensures.put,
      told,
    )) c.say_decided.ensures.told
