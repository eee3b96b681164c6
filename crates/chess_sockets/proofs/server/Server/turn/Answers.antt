-- Who comes and who is left: the clients between them are served.
use Rattle.std.proofs.Common.{◌∙◌, Ok, ap, refl, sym}
use Rattle.std.proofs.lemmas.Result.{err_from_is_err_and}
use Rattle.chess_hub.specs.Faults.{CountsFault}
use Rattle.chess_sockets.specs.Serving.{served, server_state, HasServed}
use Rattle.chess_sockets.specs.Turns.{EndsServing, IsTurnRefusal, IsRefusal}
use Rattle.chess_sockets.proofs.StoreLemmas.{lasts_over, lasts_handed, of_fault, counts_refused, counts_done}
use Rattle.chess_sockets.proofs.ServingLemmas.{welcomed_there, welcomed_on, asked_there, has_worked}
use Rattle.chess_sockets.proofs.server.Server.turn.Goals as goal
use Rattle.chess_hub.specs.Storing.{StoreMayBeAsked, StoreRefuses}
use Rattle.chess_hub.specs.Law.{hub_state, hub_store, hub_refusals}
use Rattle.chess_sockets.specs.Rounds.{times}

-- ---- what is left of the store

pub returns-clause-lasts : goal.returns-clause-lasts
returns-clause-lasts g c =
    let s = hub_store c.welcome-came.new.self.hub in
    let n = hub_store c.serve_clients.new.hub in
    let state = g.D.Device.state in
    rw (c.part-2.ensures.hub, sym (c.welcome-came.ensures.store ∙ ap hub_store c.part.ensures.hub))
    (λ kept. lasts_over (Ok c.in_ok-has_served.has_served) c.in_ok-has_served.has_served _ (state s.journal.device)
    (state n.journal.device) n.journal.header n.journal.compaction s.table n.table refl
    (c.in_ok-has_served.ensures.lasts kept))

pub returns-in_err-has_served-clause-lasts : goal.returns-in_err-has_served-clause-lasts
returns-in_err-has_served-clause-lasts g c =
    let s = hub_store c.welcome-came.new.self.hub in
    let n = hub_store c.serve_clients.new.hub in
    let state = g.D.Device.state in
    let r = c.from_residual in
    let e = err_from_is_err_and r.result r.ensures.1 in
    rw (sym (c.welcome-came.ensures.store ∙ ap hub_store c.part.ensures.hub))
    (λ kept. lasts_handed r.result e.0 c.in_err-has_served.field-0.0 (state s.journal.device) (state n.journal.device)
    n.journal.header n.journal.compaction s.table n.table e.1 e.2 (c.in_err-has_served.ensures.lasts kept))

-- ---- who is served

pub returns-clause-served : goal.returns-clause-served
returns-clause-served g c =
    let old = c.args.self.now in
    let w = c.welcome-came.new.self in
    let n = c.serve_clients.new in
    let left = c.part-2.new.self in
    let serves : HasServed g.S.Read.remaining g.S.Write.contents (times c.args.at old.silence)
    (StoreMayBeAsked (hub_store old.hub)) (served w.clients.items (hub_state w.hub))
    (served n.clients.items (hub_state left.hub)) =
    rw (
      c.part-2.ensures.hub,
      sym (c.welcome-came.ensures.store ∙ ap hub_store c.part.ensures.hub),
      sym (c.welcome-came.ensures.silence ∙ c.part.ensures.silence),
    )
    c.in_ok-has_served.ensures.served in
    record {
      asked = w.clients.items;
      begun = hub_state w.hub;
      welcomes = welcomed_on g.S.From.from_gives c.args.at old.listener.given w.listener left.listener old.turned_away w.turned_away
          left.turned_away _ _ _ _ c.part-2.ensures.listener c.part-2.ensures.turned_away
          (welcomed_there g.S.From.from_gives c.args.at c.part.new.self.hub old.hub hub_state
          c.part.new.self.listener old.listener w.listener.given
          c.part.new.self.turned_away old.turned_away w.turned_away _ _ _ _ c.part.ensures.hub c.part.ensures.stay
          c.part.ensures.turned_away c.part.ensures.listener c.welcome-came.ensures.welcomes);
      written = n.clients.items;
      serves = serves;
      stay = rw c.part-2.ensures.hub c.part-2.ensures.stay;
    }

-- ---- what was work

pub returns-clause-worked : goal.returns-clause-worked
returns-clause-worked g c =
    let old = c.args.self.now in
    let p = c.part.new.self in
    let w = c.welcome-came.new.self in
    λ is. has_worked c.welcome-came.result c.in_ok-has_served.has_served old.listener.given p.listener.given w.listener.given
    c.part-2.new.self.listener.given _ p.clients.items w.clients.items (c.told_as.ensures.worked is) c.welcome-came.ensures.came
    c.welcome-came.ensures.stay c.in_ok-has_served.ensures.more (ap (λ d. d.given) c.part.ensures.listener)
    (ap (λ d. d.given) c.part-2.ensures.listener) c.part.ensures.stay

-- ---- why it ends

pub returns-in_err-has_served-clause-fault : goal.returns-in_err-has_served-clause-fault
returns-in_err-has_served-clause-fault g c =
    let r = c.from_residual in
    let e = err_from_is_err_and r.result r.ensures.1 in
    of_fault r.result e.0 c.in_err-has_served.field-0.0 EndsServing e.1 e.2 c.in_err-has_served.ensures.fault

pub returns-in_err-has_served-clause-refused : goal.returns-in_err-has_served-clause-refused
returns-in_err-has_served-clause-refused g c =
    let old = c.args.self.now in
    let r = c.from_residual in
    let e = err_from_is_err_and r.result r.ensures.1 in
    let same = c.welcome-came.ensures.store ∙ ap hub_store c.part.ensures.hub in
    let w = c.welcome-came.new.self in
    let n = c.serve_clients.new in
    let refusal : IsRefusal g.S.Read.remaining (times c.args.at old.silence)
    (StoreRefuses (hub_store old.hub) (hub_store n.hub)) c.in_err-has_served.field-0.0
    (served w.clients.items (hub_state w.hub)) (served n.clients.items (hub_state n.hub)) =
    rw (sym same, sym (c.welcome-came.ensures.silence ∙ c.part.ensures.silence))
    c.in_err-has_served.ensures.refused in
    of_fault r.result e.0 c.in_err-has_served.field-0.0
    (λ fault. IsTurnRefusal g.S.From.from_gives g.S.Read.remaining (times c.args.at old.silence)
    (StoreRefuses (hub_store old.hub) (hub_store n.hub)) fault
    (server_state old.listener.given old.turned_away old.clients.items (hub_state old.hub))
    (server_state w.listener.given w.turned_away n.clients.items (hub_state n.hub))) e.1 e.2
    (record {
      asked = w.clients.items;
      begun = hub_state w.hub;
      welcomes = welcomed_there g.S.From.from_gives c.args.at c.part.new.self.hub old.hub hub_state
          c.part.new.self.listener old.listener w.listener.given
          c.part.new.self.turned_away old.turned_away w.turned_away _ _ _ _ c.part.ensures.hub c.part.ensures.stay
          c.part.ensures.turned_away c.part.ensures.listener c.welcome-came.ensures.welcomes;
      refusal = refusal;
    })

pub returns-in_err-has_served-clause-cause_err : goal.returns-in_err-has_served-clause-cause_err
returns-in_err-has_served-clause-cause_err g c =
    let failures = g.D.Device.failures in
    let s = hub_store c.welcome-came.new.self.hub in
    let n = hub_store c.serve_clients.new.hub in
    let r = c.from_residual in
    let e = err_from_is_err_and r.result r.ensures.1 in
    rw (sym (c.welcome-came.ensures.store ∙ ap hub_store c.part.ensures.hub))
    (of_fault r.result e.0 c.in_err-has_served.field-0.0 (λ fault. CountsFault fault (failures s.journal.device)
    (failures n.journal.device)) e.1 e.2 c.in_err-has_served.ensures.cause_err)

-- ---- the count of refusals

pub returns-clause-counts : goal.returns-clause-counts
returns-clause-counts g c =
    ap hub_refusals c.part-2.ensures.hub
    ∙ counts_done c.serve_clients.result c.in_ok-has_served.has_served (hub_refusals c.welcome-came.new.self.hub)
    (hub_refusals c.serve_clients.new.hub) c.in_ok-has_served.was c.serve_clients.ensures.counts
    ∙ c.welcome-came.ensures.refusals ∙ ap hub_refusals c.part.ensures.hub

pub returns-in_err-has_served-clause-counts : goal.returns-in_err-has_served-clause-counts
returns-in_err-has_served-clause-counts g c =
    let r = c.from_residual in
    let e = err_from_is_err_and r.result r.ensures.1 in
    rw (sym (c.welcome-came.ensures.refusals ∙ ap hub_refusals c.part.ensures.hub))
    (counts_refused c.serve_clients.result r.result e.0 c.in_err-has_served.field-0.0
    (hub_refusals c.welcome-came.new.self.hub) (hub_refusals c.serve_clients.new.hub) c.in_err-has_served.was e.1 e.2
    c.serve_clients.ensures.counts)

-- ---- who is asked for

pub returns-clause-asked : goal.returns-clause-asked
returns-clause-asked g c =
    let old = c.args.self.now in
    let p = c.part.new.self in
    let w = c.welcome-came.new.self in
    asked_there p.rested old.rested p.listener old.listener w.listener c.part-2.new.self.listener c.part.ensures.rested c.part.ensures.listener
    c.part-2.ensures.listener c.welcome-came.ensures.asked

pub returns-in_err-has_served-clause-asked : goal.returns-in_err-has_served-clause-asked
returns-in_err-has_served-clause-asked g c =
    let old = c.args.self.now in
    let p = c.part.new.self in
    let w = c.welcome-came.new.self in
    asked_there p.rested old.rested p.listener old.listener w.listener w.listener c.part.ensures.rested c.part.ensures.listener refl
    c.welcome-came.ensures.asked
