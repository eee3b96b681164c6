use Rattle.std.proofs.Common.{Err, refl, rules}
use Rattle.chess_hub.specs.declared.fault.HubFault.TheVariants.{Store}
use Rattle.chess_hub.proofs.TurnLemmas.{answered_count, batch_fault, lasts_idle, lasts_refused, lasts_answered, tried_refused}
use Rattle.chess_hub.proofs.hub.ask.Goals as goal

pub returns-then-is_empty-clause-lasts : goal.returns-then-is_empty-clause-lasts
returns-then-is_empty-clause-lasts g c = λ kept.
    let device = c.args.store.now.journal.device in
    lasts_idle (g.D.Device.sector_count device) (g.met.D.Device.coherent device) kept c.new.result

pub returns-in-Err-clause-fault : goal.returns-in-Err-clause-fault
returns-in-Err-clause-fault g c =
    let store = c.args.store.now in
    let is = c.in-Err.ensures in
    record {
      some = search rules;
      why = batch_fault store.journal.header.seq store.table c.submit.new.self.table c.args.commands.now c.in-Err.fault
          store.failed is.fault is.batch.pending is.failed is.worn;
    }

pub returns-in-Err-clause-lasts : goal.returns-in-Err-clause-lasts
returns-in-Err-clause-lasts g c = λ kept.
    lasts_refused (Err (Store c.in-Err.fault)) (Store c.in-Err.fault) c.in-Err.fault refl refl
    (c.submit.ensures.batch.any_moment kept) (c.in-Err.ensures.stays.kept_err kept)

pub returns-in-Err-clause-tried : goal.returns-in-Err-clause-tried
returns-in-Err-clause-tried g c =
    let batch = c.submit.ensures.batch in
    tried_refused (Err (Store c.in-Err.fault)) (Store c.in-Err.fault) c.in-Err.fault refl refl
    c.in-Err.ensures.batch.tried batch.limits batch.bounds batch.idle c.in-Err.ensures.stays.unchanged

pub returns-in-Ok-clause-count : goal.returns-in-Ok-clause-count
returns-in-Ok-clause-count g c =
    let is = c.in-Ok.ensures.batch.replies in
    answered_count c.args.commands.now c.args.store.now.table c.in-Ok.replies.items is.entries
    c.submit.new.self.table is.answered

pub returns-in-Ok-clause-lasts : goal.returns-in-Ok-clause-lasts
returns-in-Ok-clause-lasts g c = λ kept.
    let batch = c.submit.ensures.batch in
    lasts_answered c.submit.result c.in-Ok.replies c.in-Ok.is (batch.any_moment kept) (batch.kept kept)
