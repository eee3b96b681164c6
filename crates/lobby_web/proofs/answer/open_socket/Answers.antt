use Rattle.std.proofs.Common.{ℕ, List, OnOk, sym, subst, ◌∙◌}
use Rattle.lobby_web.specs.Answering.{IsKeyAnswer}
use Rattle.lobby_web.proofs.GrantLemmas.{asked}
use Rattle.lobby_web.proofs.answer.open_socket.Goals as goal

pub returns : goal.returns
returns c =
    asked c.accept.result c.args.request.now c.accept.new.response (sym c.is_from_page.ensures ∙ c.if-not-is_from_page.false)
    (sym c.asks_upgrade.ensures ∙ c.if-not-asks_upgrade.false)
    (subst (λ (k : List ℕ). OnOk c.accept.result (IsKeyAnswer k c.accept.new.response)) c.field.ensures c.accept.ensures)
