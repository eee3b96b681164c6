use Rattle.std.proofs.Common.{◌≡◌, ◌∙◌, refl, sym, subst, IfErr}
use Rattle.std.proofs.lemmas.Result.{err_from_is_err_and}
use Rattle.chess_hub.specs.Answers.{name_at}
use Rattle.chess_hub.specs.Running.{waits}
use Rattle.chess_hub.specs.declared.fault.HubFault.TheVariants.{NoMemory}
use Rattle.chess_hub.proofs.TalkLemmas.{alone-open, began, heard-first, heard-second, hears-or-none}
use Rattle.chess_hub.proofs.talk.hear.Goals as goal

pub feed-requires-clause-open : goal.feed-requires-clause-open
feed-requires-clause-open g c =
    alone-open c.args.hub.now.sessions c.args.sid (waits c.requires.talks.0) c.requires.talks.1

pub feed-requires-2-clause-open : goal.feed-requires-2-clause-open
feed-requires-2-clause-open g c =
    let old = c.args.hub.now.sessions in
    alone-open c.feed.new.self.sessions c.args.sid (began (name_at old c.args.sid) c.args.line.now)
    (heard-first old c.feed.new.self.sessions c.args.sid c.args.line.now c.requires.unfinished c.requires.talks
    c.in_ok-feed.ensures.fed)

pub returns-clause-heard : goal.returns-clause-heard
returns-clause-heard g c =
    let old = c.args.hub.now.sessions in
    heard-second c.feed.new.self.sessions c.feed-2.new.self.sessions c.args.sid (name_at old c.args.sid)
    c.args.line.now c.feed-2.result c.requires.unfinished
    (heard-first old c.feed.new.self.sessions c.args.sid c.args.line.now c.requires.unfinished c.requires.talks
    c.in_ok-feed.ensures.fed)
    c.feed-2.ensures.fed

pub returns-clause-fault : goal.returns-clause-fault
returns-clause-fault g c =
    let old = c.args.hub.now.sessions in
    hears-or-none c.feed.new.self.sessions c.args.sid (began (name_at old c.args.sid) c.args.line.now)
    c.feed-2.result
    (heard-first old c.feed.new.self.sessions c.args.sid c.args.line.now c.requires.unfinished c.requires.talks
    c.in_ok-feed.ensures.fed) refl c.feed-2.ensures.fault c.feed-2.ensures.long

pub returns-in_err-feed-clause-fault : goal.returns-in_err-feed-clause-fault
returns-in_err-feed-clause-fault g c =
    let e = err_from_is_err_and c.from_residual.result c.from_residual.ensures.1 in
    let none = hears-or-none c.args.hub.now.sessions c.args.sid (waits c.requires.talks.0) c.feed.result
    c.requires.talks.1 refl c.feed.ensures.fault c.feed.ensures.long in
    subst (λ r. IfErr r (λ fault. fault ≡ NoMemory)) (sym e.1)
    (e.2 ∙ subst (λ r. IfErr r (λ fault. fault ≡ NoMemory)) c.in_err-feed.was none)
