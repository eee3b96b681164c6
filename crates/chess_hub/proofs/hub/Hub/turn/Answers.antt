use Rattle.std.proofs.Common.{◌≡◌, ◌∙◌, List, Err, length, map, refl, sym, subst}
use Rattle.std.proofs.lemmas.Result.{err_from_is_err_and}
use Rattle.chess_entry.specs.declared.commands.Command.{Command}
use Rattle.chess_hub.specs.declared.turn.TurnLine.{TurnLine}
use Rattle.chess_hub.specs.Session.{said}
use Rattle.chess_hub.specs.Answers.{name_at, commands_of, AreAnswers}
use Rattle.chess_hub.specs.Delivery.{HaveRoom}
use Rattle.chess_store.specs.Batch.{AreAnswered}
use Rattle.chess_store.specs.declared.fault.StoreFault.{StoreFault}
use Rattle.chess_hub.specs.declared.fault.HubFault.TheVariants.{NoMemory}
use Rattle.chess_hub.specs.Storing.{StoreRefuses}
use Rattle.chess_hub.specs.Turning.{AsksFor}
use Rattle.chess_hub.proofs.TurnLemmas.{lasts_same, lasts_passed, lasts_done, tried_passed, fault_passed, answered_since}
use Rattle.chess_hub.proofs.hub.Hub.turn.Goals as goal

pub returns-in_default-clause-lasts : goal.returns-in_default-clause-lasts
returns-in_default-clause-lasts g c = λ kept.
    let device = c.args.self.now.store.journal.device in
    lasts_same (g.D.Device.sector_count device) (g.met.D.Device.coherent device) kept (Err NoMemory) NoMemory refl refl

pub returns-in_err-replies-clause-fault : goal.returns-in_err-replies-clause-fault
returns-in_err-replies-clause-fault g c =
    let s = c.args.self.now in
    let at = c.args.at in
    let taken = c.in-Ok.gathered.lines.items in
    let r = c.from_residual in
    let e = err_from_is_err_and r.result r.ensures.1 in
    let asked : c.deref.result.now ≡ commands_of at (name_at s.sessions) taken =
    c.deref.ensures.value ∙ c.in-Ok.ensures.commands in
    let Was : StoreFault → Type 0 = λ refused. StoreRefuses s.store c.ask.new.store refused c.deref.result.now in
    let Is : StoreFault → Type 0 = λ refused. AsksFor at c.args.most s.sessions
    (StoreRefuses s.store c.ask.new.store refused) in
    let more : (refused : StoreFault) → Was refused → Is refused = λ refused is. record {
      taken = taken;
      lines = c.in-Ok.ensures.lines;
      those = subst (λ (cs : List Command). StoreRefuses s.store c.ask.new.store refused cs) asked is;
    } in
    fault_passed c.ask.result r.result c.in_err-replies.field-0.0 e.0 _ Was Is c.in_err-replies.was e.1 e.2
    c.ask.ensures.fault more

pub returns-in_err-replies-clause-lasts : goal.returns-in_err-replies-clause-lasts
returns-in_err-replies-clause-lasts g c = λ kept.
    let r = c.from_residual in
    let e = err_from_is_err_and r.result r.ensures.1 in
    lasts_passed c.ask.result r.result c.in_err-replies.field-0.0 e.0 c.in_err-replies.was e.1 e.2
    (c.ask.ensures.lasts kept)

pub returns-in_err-replies-clause-tried : goal.returns-in_err-replies-clause-tried
returns-in_err-replies-clause-tried g c =
    let e = err_from_is_err_and c.from_residual.result c.from_residual.ensures.1 in
    tried_passed c.from_residual.result c.in_err-replies.field-0.0 e.0 e.1 e.2 c.in_err-replies.ensures.tried

pub returns-in_err-replies-clause-counts : goal.returns-in_err-replies-clause-counts
returns-in_err-replies-clause-counts g c =
    let e = err_from_is_err_and c.from_residual.result c.from_residual.ensures.1 in
    rw (e.1, e.2) c.in_err-replies.ensures.counts

pub deliver-requires-clause-room : goal.deliver-requires-clause-room
deliver-requires-clause-room g c =
    subst (λ (ts : List TurnLine). HaveRoom (length ts) c.gather.new.sessions.slab ts) (sym c.deref-2.ensures.value)
    c.in-Ok.ensures.room

pub returns-clause-turned : goal.returns-clause-turned
returns-clause-turned g c =
    let s = c.args.self.now in
    let at = c.args.at in
    let taken = c.in-Ok.gathered.lines.items in
    let replies = c.in_ok-replies.replies.items in
    let asked : c.deref.result.now ≡ commands_of at (name_at s.sessions) taken =
    c.deref.ensures.value ∙ c.in-Ok.ensures.commands in
    let d = c.deliver.ensures in
    record {
      taken = taken;
      lines = c.in-Ok.ensures.lines;
      replies = replies;
      batch = subst (λ (cs : List Command). AreAnswered s.store.table cs replies c.ask.new.store.table) asked
          c.in_ok-replies.ensures.replies;
      answered = d.0;
      whose = d.1 ∙ c.deref-2.ensures.value;
      answers = subst (λ (ts : List TurnLine). AreAnswers at ts (map said replies) (map (λ a. a.said) d.0))
          c.deref-2.ensures.value d.2;
      all = answered_since at d.0 s.sessions c.gather.new.sessions c.deliver.new.self c.gather.ensures.unchanged d.3;
    }

pub returns-clause-lasts : goal.returns-clause-lasts
returns-clause-lasts g c = λ kept.
    lasts_done c.ask.result c.in_ok-replies.replies tt c.in_ok-replies.was (c.ask.ensures.lasts kept)
