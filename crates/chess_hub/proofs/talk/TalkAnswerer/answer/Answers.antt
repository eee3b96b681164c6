use Rattle.std.proofs.Common.{◌≡◌, sym, ap, subst, IfErr}
use Rattle.std.proofs.lemmas.Result.{err_from_is_err_and}
use Rattle.std.specs.Io.BufRead.{strip_last}
use Rattle.chess_hub.specs.Answers.{name_at}
use Rattle.chess_hub.specs.declared.fault.HubFault.{HubFault}
use Rattle.chess_hub.specs.Running.{standing, RefusesLine}
use Rattle.chess_hub.proofs.TalkLemmas.{answers-line, refuses-line}
use Rattle.chess_hub.proofs.talk.TalkAnswerer.answer.Goals as goal
use Rattle.chess_hub.specs.Turning.{kept}
use Rattle.sector_dev.specs.Device.{measures}

pub take_turn-requires : goal.take_turn-requires
take_turn-requires g c = record {
  asks = record {
    name = name_at c.args.self.now.hub.sessions c.args.self.now.sid;
    part = c.args.line.now;
    unfinished = c.requires.unfinished;
    is = c.in_ok-hear.ensures.heard;
  };
}

pub returns-clause-answered : goal.returns-clause-answered
returns-clause-answered g c =
    let s = c.args.self.now in
    let old = s.hub.store in
    let mid = c.hear.new.hub.store in
    let new = c.take_turn.new.hub.store in
    let name = name_at s.hub.sessions s.sid in
    answers-line g.D.Device.state g.D.Device.sector_count g.D.Device.failures g.M.Moments.gives
    (kept old) (kept mid) (kept new) name c.take_turn.new.hub.sessions s.sid c.next.result s.moments c.next.new.self
    (strip_last 13 c.args.line.now)
    (ap (λ store. kept store) c.hear.ensures.store)
    c.in_ok-reply.reply c.next.ensures
    (c.in_ok-reply.ensures.told name c.args.line.now c.requires.unfinished c.in_ok-hear.ensures.heard)
    (c.in_ok-reply.ensures.works name c.args.line.now c.requires.unfinished c.in_ok-hear.ensures.heard)
    c.in_ok-reply.ensures.serves

pub returns-clause-ready : goal.returns-clause-ready
returns-clause-ready g c =
    let s = c.args.self.now in
    let name = name_at s.hub.sessions s.sid in
    let is = c.in_ok-reply.ensures.told name c.args.line.now c.requires.unfinished c.in_ok-hear.ensures.heard in
    (_, is.then)

pub returns-in_err-reply-clause-broken : goal.returns-in_err-reply-clause-broken
returns-in_err-reply-clause-broken g c =
    let r = c.from_residual-in_err-reply in
    let e = err_from_is_err_and r.result r.ensures.1 in
    let s = c.args.self.now in
    let old = s.hub.store in
    let mid = c.hear.new.hub.store in
    let new = c.take_turn.new.hub.store in
    let name = name_at s.hub.sessions s.sid in
    let text = strip_last 13 c.args.line.now in
    let after = standing c.take_turn.new.hub s.sid c.next.new.self in
    let before = standing s.hub s.sid s.moments in
    subst (λ r. IfErr r (λ fault. RefusesLine (measures g.D.Device.state g.D.Device.sector_count g.D.Device.failures)
    g.M.Moments.gives before text fault after)) (sym e.1)
    (subst (λ (f : HubFault). RefusesLine (measures g.D.Device.state g.D.Device.sector_count g.D.Device.failures)
    g.M.Moments.gives before text f after) (sym e.2)
    (refuses-line g.D.Device.state g.D.Device.sector_count g.D.Device.failures g.M.Moments.gives
    (kept old) (kept mid) (kept new) name c.take_turn.new.hub.sessions s.sid c.next.result s.moments c.next.new.self text
    (ap (λ store. kept store) c.hear.ensures.store)
    c.in_err-reply.field-0.0 c.next.ensures (new ≡ mid)
    (λ same. ap (λ store. kept store) same)
    (c.in_err-reply.ensures.fault name c.args.line.now c.requires.unfinished c.in_ok-hear.ensures.heard)
    c.in_err-reply.ensures.serves_err))
