use Rattle.std.proofs.Common.{ℕ, ◌≡◌, ◌≤◌, ◌∙◌, ◌+◌, ◌-◌, ◌^◌, min, Some, Err, ap, sym, subst, List, length, map, take, true, count_by}
use Rattle.std.proofs.lemmas.List.{take_all}
use Rattle.sector_dev.proofs.Runs.{leaves_now}
use Rattle.chess_entry.specs.declared.commands.Command.{Command}
use Rattle.chess_answer.specs.declared.reads.Reply.{Reply}
use Rattle.chess_store.specs.declared.fault.StoreFault.{StoreFault}
use Rattle.chess_store.specs.Batch.{IsAnswered, IsWornOut, change_count}
use Rattle.chess_store.specs.Faults.{UnlessDevice, CountsFault, MayLast}
use Rattle.chess_store.specs.Kept.{IsStoreKept}
use Rattle.chess_store.specs.Means.{MeansEither, IsKept}
use Rattle.chess_store.proofs.MeansLemmas.{kept_means}
use Rattle.chess_store.proofs.DeviceLemmas.{gone_on-none, gone_on-more}
use Rattle.chess_store.specs.Courses.{IsSubmittable, is_unsent}
use Rattle.chess_store.specs.Serving.{IsTallied}
use Rattle.chess_store.proofs.ServingLemmas.{SoFar, so_far-none, so_far-more, EachOf-at, take_map-more, around-at, tallied-all, tallied-err, room-err, worn_before, batch_fault}
use Rattle.chess_store.proofs.serving.submit_all.Goals as goal

pub submit-requires-clause-some : goal.submit-requires-clause-some
submit-requires-clause-some g c =
    let batch = EachOf-at IsSubmittable (λ b. b.items) c.args.batches.now c.loop-batch.batch-index c.batch-item.result
    c.requires.batches c.loop-batch-test.true c.batch-item.is in
    subst (λ (commands : List Command). 1 ≤ length commands) (sym c.deref.ensures.value) batch.some

pub submit-requires-clause-few : goal.submit-requires-clause-few
submit-requires-clause-few g c =
    let batch = EachOf-at IsSubmittable (λ b. b.items) c.args.batches.now c.loop-batch.batch-index c.batch-item.result
    c.requires.batches c.loop-batch-test.true c.batch-item.is in
    subst (λ (commands : List Command). length commands ≤ 64) (sym c.deref.ensures.value) batch.few

pub loop-batch-init : goal.loop-batch-init
loop-batch-init g c = record {
  works = c.requires.works;
  so_far = so_far-none c.args.store.now.table c.shown-count.result c.shown-count.ensures;
  kept = λ kept. kept;
  on = λ kept. gone_on-none (g.D.Device.state c.args.store.now.journal.device);
  unfailed = cc;
  model = (λ model. model, λ model. model);
  sectors = cc;
}

pub loop-batch-preserved : goal.loop-batch-preserved
loop-batch-preserved g c =
    let inv = c.loop-batch.invariant in
    let e = c.in-Ok.ensures.batch in
    let replies = c.in-Ok.replies.items in
    let answered = e.replies in
    let told : IsAnswered c.loop-batch.store.table c.batch-item.result.items replies answered.entries
    c.submit.new.self.table =
    subst (λ (commands : List Command). IsAnswered c.loop-batch.store.table commands replies answered.entries
    c.submit.new.self.table) c.deref.ensures.value answered.answered in
    let counted : c.unsent.result ≡ count_by is_unsent replies =
    c.unsent.ensures ∙ ap (λ (rs : List Reply). count_by is_unsent rs) c.deref-in-Ok.ensures.value in
    let done = map (λ b. b.items) (take c.loop-batch.batch-index c.args.batches.now) in
    record {
      works = e.tried.works;
      so_far = subst (λ (all : List (List Command)). SoFar c.args.store.now.table all c.submit.new.self.table
          c.shown-count-in-Ok.result c.saturating_add-refused.result)
          (sym (take_map-more (λ b. b.items) c.args.batches.now c.loop-batch.batch-index c.batch-item.result
          c.loop-batch-test.true c.batch-item.is))
          (so_far-more c.args.store.now.table done c.loop-batch.store.table c.submit.new.self.table c.loop-batch.count
          c.shown-count-in-Ok.result c.loop-batch.refused c.saturating_add-refused.result c.batch-item.result.items
          replies answered.entries inv.so_far told c.shown-count-in-Ok.ensures
          (c.saturating_add-refused.ensures ∙ ap (λ (n : ℕ). min (c.loop-batch.refused + n) (2 ^ 64 - 1)) counted));
      kept = λ kept. e.kept (inv.kept kept);
      on = λ kept.
          let leaves = e.any_moment (inv.kept kept) in
          gone_on-more _ _ _ (inv.on kept) (record { unstopped = leaves.unstopped; later = leaves.later });
      unfailed = e.tried.cause ∙ inv.unfailed;
      model = (λ model. inv.model.0 (e.tried.model.0 model), λ model. e.tried.model.1 (inv.model.1 model));
      sectors = e.tried.sectors ∙ inv.sectors;
    }

pub returns-clause-tallied : goal.returns-clause-tallied
returns-clause-tallied g c =
    let inv = c.loop-batch.invariant in
    let device = c.args.store.now.journal.device in
    let store = c.loop-batch.store in
    tallied-all c.args.store.now.table (g.D.Device.failures device) (IsStoreKept c.args.store.now) (g.D.Device.state store.journal.device)
    (g.D.Device.failures store.journal.device) (map (λ b. b.items) c.args.batches.now) store.table c.loop-batch.count
    c.loop-batch.refused
    (subst (λ (bs : List _). SoFar c.args.store.now.table (map (λ b. b.items) bs) store.table c.loop-batch.count
    c.loop-batch.refused) (take_all c.loop-batch.batch-index c.args.batches.now c.loop-batch-test.false) inv.so_far)
    inv.unfailed
    (λ was. kept_means (inv.kept was))

pub returns-in-Err-clause-tallied : goal.returns-in-Err-clause-tallied
returns-in-Err-clause-tallied g c =
    let inv = c.loop-batch.invariant in
    let device = c.args.store.now.journal.device in
    let store = c.loop-batch.store in
    let new = c.submit.new.self in
    let WasKept = IsStoreKept c.args.store.now in
    let around = around-at (λ b. b.items) c.args.batches.now c.loop-batch.batch-index c.batch-item.result
    c.loop-batch-test.true c.batch-item.is in
    let last : MayLast c.in-Err.fault store.table c.batch-item.result.items new.table =
    subst (λ (commands : List Command). MayLast c.in-Err.fault store.table commands new.table) c.deref.ensures.value
    c.in-Err.ensures.batch.pending in
    subst (λ (bs : List (List Command)). IsTallied c.args.store.now.table bs
    (record { shown = c.loop-batch.count; unsent = c.loop-batch.refused; fault = Some c.in-Err.fault })
    (g.D.Device.failures device) WasKept (g.D.Device.state new.journal.device) (g.D.Device.failures new.journal.device))
    (sym around.is)
    (tallied-err c.args.store.now.table (g.D.Device.failures device) WasKept (g.D.Device.state new.journal.device)
    (g.D.Device.failures new.journal.device) (map (λ b. b.items) (take c.loop-batch.batch-index c.args.batches.now))
    around.rest c.batch-item.result.items store.table new.table c.loop-batch.count c.loop-batch.refused
    (g.D.Device.failures store.journal.device) c.in-Err.fault inv.so_far c.in-Err.ensures.fault
    (λ is. let failed : store.failed ≡ true = c.submit.ensures.failed.0 (c.in-Err.is ∙ ap (λ (f : StoreFault). Err f) is) in cc)
    last c.in-Err.ensures.batch.tried.cause_err inv.unfailed
    (λ was is.
    let worn = (c.submit.ensures.worn.0 (c.in-Err.is ∙ ap (λ (f : StoreFault). Err f) is)).1 in
    let same = subst (λ (f : StoreFault). UnlessDevice f ((new.journal.device ≡ store.journal.device)
    × (new.table ≡ store.table) × (new.failed ≡ store.failed))) is c.in-Err.ensures.stays.unchanged in
    worn_before (g.D.Device.state new.journal.device) store.journal.header store.journal.compaction store.table
    c.batch-item.result.items
    (subst (λ (d : _). IsKept (g.D.Device.state d) store.journal.header store.journal.compaction store.table)
    (sym same.0) (inv.kept was))
    (subst (λ (commands : List Command). IsWornOut store.journal.header.seq store.table.entries (change_count commands))
    c.deref.ensures.value worn))
    (λ was.
    let kept = inv.kept was in
    leaves_now (g.D.Device.sector_count new.journal.device) (g.D.Device.state store.journal.device)
    (g.D.Device.state new.journal.device) (MeansEither store.table new.table)
    (g.met.D.Device.coherent new.journal.device) (c.submit.ensures.batch.tried.model.1 kept.keeps.model)
    (c.submit.ensures.batch.any_moment kept)))

pub returns-in-Err-clause-on : goal.returns-in-Err-clause-on
returns-in-Err-clause-on g c = λ was.
    let inv = c.loop-batch.invariant in
    let leaves = c.submit.ensures.batch.any_moment (inv.kept was) in
    gone_on-more _ _ _ (inv.on was) (record { unstopped = leaves.unstopped; later = leaves.later })

pub returns-in-Err-clause-fault : goal.returns-in-Err-clause-fault
returns-in-Err-clause-fault g c =
    let store = c.loop-batch.store in
    batch_fault c.in-Err.fault c.in-Err.ensures.fault
    (λ is. let failed : store.failed ≡ true = c.submit.ensures.failed.0 (c.in-Err.is ∙ ap (λ (f : StoreFault). Err f) is) in
    let works = c.loop-batch.invariant.works in cc)

pub returns-in-Err-clause-counts : goal.returns-in-Err-clause-counts
returns-in-Err-clause-counts g c =
    subst (λ (n : ℕ). CountsFault c.in-Err.fault n (g.D.Device.failures c.submit.new.self.journal.device))
    c.loop-batch.invariant.unfailed c.in-Err.ensures.batch.tried.cause_err

pub returns-in-Err-clause-room : goal.returns-in-Err-clause-room
returns-in-Err-clause-room g c =
    room-err c.in-Err.fault c.loop-batch.store.table c.submit.new.self.table c.deref.result.now c.loop-batch.count
    c.in-Err.ensures.batch.pending c.submit.ensures.batch.bounds c.loop-batch.invariant.so_far.count
