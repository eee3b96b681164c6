-- What the answers to one request after another say of each, and of the last.
use Rattle.std.proofs.Common.{ℕ, ◌≡◌, ◌==◌, List, [], ◌∷◌, ◌++◌, true, false, refl, sym, ap, ◌∙◌, subst, arith}
use Rattle.std.proofs.lemmas.Bool.Decides.{nat_tests}
use Rattle.http_server.specs.Exchange.{Call, Chain}
use Rattle.lobby_web.specs.declared.site.Site.{Site}
use Rattle.lobby_web.specs.declared.answer.Asked.{Asked}
use Rattle.lobby_web.specs.Answering.{IsAnswer, is_switch}
use Rattle.lobby_web.specs.Asking.{Replies}
use Rattle.lobby_web.specs.Forwarding.{AreToldBy}
use Rattle.lobby_web.specs.Browsing.{AreAnswered}

pub chain-answers : (old new : Asked) (calls : List Call) → Chain Replies old calls new → AreAnswered old.site.now calls
chain-answers old new [] chain = tt
chain-answers old new (call ∷ calls) chain =
    (chain.1.0, subst (λ (site : Site). AreAnswered site calls) chain.1.1 (chain-answers chain.0 new calls chain.2))

-- for whom a proxy says that it asks
pub chain-told : (old new : Asked) (calls : List Call) → Chain Replies old calls new → AreToldBy calls old.forwarded new.forwarded
chain-told old new [] chain = ap (λ (a : Asked). a.forwarded) chain
chain-told old new (call ∷ calls) chain = (chain.0.forwarded, chain.1.3, chain-told chain.0 new calls chain.2)

-- the last of these calls, and that it was an upgrade which the site granted
pub record EndsInSwitch (site : Site) (calls : List Call) : Type 0 where
  pub front : List Call
  pub last : Call
  pub split : calls ≡ front ++ last ∷ []
  pub answer : IsAnswer site last.0 last.1
  pub switch : last.1.status ≡ 101

switch-status : (status : ℕ) → status == 101 ≡ true → status ≡ 101
switch-status status h = grind (arith, nat_tests)

later : (site : Site) (call : Call) (calls : List Call) → EndsInSwitch site calls → EndsInSwitch site (call ∷ calls)
later site call calls ends =
    record { front = call ∷ ends.front; last = ends.last; split = ap (λ l. call ∷ l) ends.split; answer = ends.answer; switch = ends.switch }

switch-last : (old new : Asked) (call : Call) (calls : List Call) → Chain Replies old (call ∷ calls) new → new.has_switched ≡ true
    → EndsInSwitch old.site.now (call ∷ calls)
switch-last old new call [] chain switched =
    let last : new.has_switched ≡ is_switch call.1 = ap (λ (a : Asked). a.has_switched) chain.2 ∙ chain.1.2 in
    record { front = []; last = call; split = refl; answer = chain.1.0; switch = switch-status call.1.status (sym last ∙ switched) }
switch-last old new call (second ∷ calls) chain switched =
    later old.site.now call (second ∷ calls)
    (subst (λ (site : Site). EndsInSwitch site (second ∷ calls)) chain.1.1 (switch-last chain.0 new second calls chain.2 switched))

pub chain-switch : (old new : Asked) (calls : List Call) → Chain Replies old calls new → old.has_switched ≡ false → new.has_switched ≡ true
    → EndsInSwitch old.site.now calls
chain-switch old new [] chain before after = absurd (cc (ap (λ (a : Asked). a.has_switched) chain, before, after))
chain-switch old new (call ∷ calls) chain before after = switch-last old new call calls chain after
