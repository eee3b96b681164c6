use Rattle.std.proofs.Common.{◌≡◌, sym, subst, Ok, IfErr}
use Rattle.std.proofs.lemmas.Result.{err_from_is_err_and}
use Rattle.std.specs.Io.BufRead.{strip_last}
use Rattle.chess_hub.specs.Storing.{StoreMayBeAsked, StoreRefuses}
use Rattle.chess_hub.specs.Turning.{IsTurnFault, kept}
use Rattle.sector_dev.specs.Device.{measures}
use Rattle.chess_hub.specs.Running.{asks, Serves, IsAlone, IsTold, LineAsksFor}
use Rattle.text_lines.specs.Lines.{IsUnfinished}
use Rattle.chess_hub.specs.Session.{said}
use Rattle.chess_hub.proofs.TalkLemmas.{alone-open, turned-told, asks-line, told-is, told-some, fault-map, serves-as, serves-err}
use Rattle.chess_hub.proofs.talk.take_turn.Goals as goal
use Rattle.chess_hub.specs.Law.{state_of}

pub output-requires : goal.output-requires
output-requires g c =
    let s = c.args.hub.now.sessions in
    let q = c.requires.asks in
    let turned = turned-told c.args.at c.args.sid q.name q.part s q.unfinished q.is c.turn.new.self.sessions _ _
    c.in_ok-turn.ensures.turned in
    alone-open c.turn.new.self.sessions c.args.sid _ turned.then

pub unreachable-requires : goal.unreachable-requires
unreachable-requires g c =
    let s = c.args.hub.now.sessions in
    let q = c.requires.asks in
    let turned = turned-told c.args.at c.args.sid q.name q.part s q.unfinished q.is c.turn.new.self.sessions _ _
    c.in_ok-turn.ensures.turned in
    told-some c.args.at c.args.sid q.name (strip_last 13 q.part) _ _ c.turn.new.self.sessions turned
    c.in-None.ensures.given

pub returns-clause-told : goal.returns-clause-told
returns-clause-told g c = λ name part u h.
    let s = c.args.hub.now.sessions in
    let mid = c.turn.new.self in
    let turned = turned-told c.args.at c.args.sid name part s u h mid.sessions _ _ c.in_ok-turn.ensures.turned in
    subst (λ store. IsTold c.args.at name (strip_last 13 part) (said c.in-Some.reply) c.args.hub.now.store.table (state_of c.output.new.self.sessions store.table) c.args.sid) (sym c.in-Some.ensures.store)
    (told-is c.args.at c.args.sid name (strip_last 13 part) _ _ mid.sessions c.output.new.self.sessions
    c.in-Some.reply turned c.in-Some.ensures.given c.in-Some.ensures.after)

pub returns-clause-works : goal.returns-clause-works
returns-clause-works g c = λ name part u h.
    asks-line c.args.at c.args.sid name part c.args.hub.now.sessions u h
    (StoreMayBeAsked c.args.hub.now.store) c.in_ok-turn.ensures.works

pub returns-clause-serves : goal.returns-clause-serves
returns-clause-serves g c =
    let old = c.args.hub.now.store in
    let mid = c.turn.new.self.store in
    subst (λ store. Serves (measures g.D.Device.state g.D.Device.sector_count g.D.Device.failures) (kept old) (kept store) (Ok tt))
    (sym c.in-Some.ensures.store)
    (serves-as g.D.Device.state g.D.Device.sector_count g.D.Device.failures (kept old) (kept mid) c.turn.result c.turn.ensures.lasts c.turn.ensures.tried (Ok tt) c.in_ok-turn.was)

pub returns-in_err-turn-clause-fault : goal.returns-in_err-turn-clause-fault
returns-in_err-turn-clause-fault g c =
    let e = err_from_is_err_and c.from_residual.result c.from_residual.ensures.1 in
    let old = c.args.hub.now in
    let new = c.turn.new.self in
    subst (λ r. IfErr r (λ fault. (name : _) (part : _) → IsUnfinished part → IsAlone old.sessions c.args.sid
    (asks name part) → IsTurnFault fault (new.store ≡ old.store) (λ refused. LineAsksFor c.args.at name
    (strip_last 13 part) (StoreRefuses old.store new.store refused)))) (sym e.1)
    (λ name part u h. subst (λ fault. IsTurnFault fault (new.store ≡ old.store) (λ refused. LineAsksFor c.args.at name
    (strip_last 13 part) (StoreRefuses old.store new.store refused))) (sym e.2)
    (fault-map c.in_err-turn.field-0.0 (new.store ≡ old.store) _ _
    (λ refused is. asks-line c.args.at c.args.sid name part old.sessions u h
    (StoreRefuses old.store new.store refused) is)
    c.in_err-turn.ensures.fault))

pub returns-in_err-turn-clause-serves_err : goal.returns-in_err-turn-clause-serves_err
returns-in_err-turn-clause-serves_err g c =
    let e = err_from_is_err_and c.from_residual.result c.from_residual.ensures.1 in
    serves-err g.D.Device.state g.D.Device.sector_count g.D.Device.failures (kept c.args.hub.now.store)
    (kept c.turn.new.self.store) c.turn.result c.turn.ensures.lasts c.turn.ensures.tried c.from_residual.result
    c.in_err-turn.field-0.0 e.0 c.in_err-turn.was e.1 e.2
