use Rattle.std.proofs.Common.{Option, sym, subst, ◌∙◌}
use Rattle.std.specs.declared.net.ip_addr.IpAddr.{IpAddr}
use Rattle.http_server.specs.declared.state.Config.{Config}
use Rattle.http_server.specs.Connection.{config_of, history}
use Rattle.http_server.specs.History.{IsServed, Rests}
use Rattle.lobby_web.specs.Forwarding.{AreToldBy}
use Rattle.lobby_web.proofs.ServeLemmas.{serves, hands-over}
use Rattle.lobby_web.proofs.browser.answered.Goals as goal

pub returns-in_default-clause-answers : goal.returns-in_default-clause-answers
returns-in_default-clause-answers c =
    let a = c.advance.ensures in
    let served = subst (λ (k : Config). ∥ IsServed k (history c.advance.new.self) ∥₁) a.config a.served in
    let rests = subst (λ (k : Config). Rests k (history c.advance.new.self)) a.config a.rests in (
      a.config,
      (serves (config_of c.args.connection) c.args.site.now c.new-asked.result c.advance.new.service (history c.args.connection)
          (history c.advance.new.self) c.new-asked.ensures.site served a.calls rests a.quiet).0,
      λ upgraded. c.in_default.not-Upgraded (c.state.ensures ∙ upgraded),
    )

pub returns-in_default-clause-told : goal.returns-in_default-clause-told
returns-in_default-clause-told c =
    let a = c.advance.ensures in
    let served = subst (λ (k : Config). ∥ IsServed k (history c.advance.new.self) ∥₁) a.config a.served in
    let rests = subst (λ (k : Config). Rests k (history c.advance.new.self)) a.config a.rests in
    let all =
    serves (config_of c.args.connection) c.args.site.now c.new-asked.result c.advance.new.service (history c.args.connection)
    (history c.advance.new.self) c.new-asked.ensures.site served a.calls rests a.quiet in (
      all.0,
      subst (λ (o : Option IpAddr). AreToldBy all.0.calls o c.advance.new.service.forwarded) c.new-asked.ensures.forwarded all.1,
    )

pub returns-clause-answers : goal.returns-clause-answers
returns-clause-answers c =
    let a = c.advance.ensures in
    let served = subst (λ (k : Config). ∥ IsServed k (history c.advance.new.self) ∥₁) a.config a.served in
    let rests = subst (λ (k : Config). Rests k (history c.advance.new.self)) a.config a.rests in
    (hands-over (config_of c.args.connection) c.args.site.now c.new-asked.result c.advance.new.service (history c.args.connection)
    (history c.advance.new.self) c.new.result c.new-asked.ensures.site c.new-asked.ensures.asked
    c.if-not-has_switched.false served a.calls rests a.quiet (sym c.in-Upgraded.ensures) c.new.ensures.fresh
    (c.new.ensures.input ∙ c.into_buffers-input.ensures.unread) (c.new.ensures.output ∙ c.into_buffers-input.ensures.pending)).0

pub returns-clause-told : goal.returns-clause-told
returns-clause-told c =
    let a = c.advance.ensures in
    let served = subst (λ (k : Config). ∥ IsServed k (history c.advance.new.self) ∥₁) a.config a.served in
    let rests = subst (λ (k : Config). Rests k (history c.advance.new.self)) a.config a.rests in
    let all =
    hands-over (config_of c.args.connection) c.args.site.now c.new-asked.result c.advance.new.service (history c.args.connection)
    (history c.advance.new.self) c.new.result c.new-asked.ensures.site c.new-asked.ensures.asked
    c.if-not-has_switched.false served a.calls rests a.quiet (sym c.in-Upgraded.ensures) c.new.ensures.fresh
    (c.new.ensures.input ∙ c.into_buffers-input.ensures.unread) (c.new.ensures.output ∙ c.into_buffers-input.ensures.pending) in (
      all.0,
      subst (λ (o : Option IpAddr). AreToldBy all.0.serves.calls o c.advance.new.service.forwarded) c.new-asked.ensures.forwarded
          all.1,
    )
