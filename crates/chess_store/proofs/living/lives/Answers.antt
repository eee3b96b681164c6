use Rattle.std.proofs.Common.{◌≡◌, ◌∙◌, ◌+◌, ◌++◌, [], ◌∷◌, Result, ap, sym, subst, arith, List, length, length-append, take, IfOk, IfErr, refl}
use Rattle.std.proofs.lemmas.List.{take_all}
use Rattle.std.proofs.lemmas.Result.{IfErr-weaker, IfOk-weaker}
use Rattle.rec_codec.specs.declared.limits.Limits.{Limits}
use Rattle.rec_codec.specs.declared.record.Entry.{Entry}
use Rattle.chess_entry.specs.State.{TableState}
use Rattle.chess_entry.specs.Games.{table_of}
use Rattle.chess_entry.proofs.Places.{take_with}
use Rattle.chess_store.specs.declared.fault.StoreFault.{StoreFault}
use Rattle.chess_store.specs.Means.{Means}
use Rattle.chess_store.specs.Faults.{IsDevice, CountsFault}
use Rattle.sector_dev.specs.Device.{HasRisen}
use Rattle.chess_store.specs.declared.plan.Life.{Life}
use Rattle.chess_store.specs.declared.plan.LifeReport.{LifeReport}
use Rattle.chess_store.specs.Devices.{IsLivedOn, AreLivedOn}
use Rattle.chess_store.specs.Lives.{IsBegun, IsLifeThen}
use Rattle.chess_store.specs.Stops.{IsStopped, IsLivesFault}
use Rattle.chess_store.specs.Serving.{IsShown}
use Rattle.chess_store.proofs.LivesLemmas.{AreOver, are_over-none, are_over-more, cut_short, cut_at_start, cut_at_end, is_report, IfOk-both, around-one}
use Rattle.chess_store.proofs.DeviceLemmas.{lived_on-more}
use Rattle.chess_store.proofs.ServingLemmas.{risen-fault}
use Rattle.chess_store.proofs.living.lives.Given.{Over}
use Rattle.chess_store.proofs.living.lives.Goals.{After-show}
use Rattle.chess_store.proofs.living.lives.Goals as goal

pub returns-in_default-clause-returned : goal.returns-in_default-clause-returned
returns-in_default-clause-returned g c = λ limits k begun.
    cut_at_start limits k (g.D.Device.failures c.args.device) c.args.plan.now.lives.items (g.D.Device.state c.args.device)
    begun

pub loop-life-init : goal.loop-life-init
loop-life-init g c =
    let state = g.D.Device.state in
    let failures = g.D.Device.failures in
    let device = c.args.device in
    record {
      count = ap (λ (rs : List LifeReport). length rs) c.in-Ok.ensures.items;
      room = omega (arith, c.in-Ok.ensures.capacity, c.len.ensures, c.deref-life-items.ensures.len);
      over = λ limits k begun.
          subst (λ (rs : List LifeReport). AreOver limits k (failures device) [] rs (state device) (failures device))
          (sym c.in-Ok.ensures.items) (are_over-none limits k (failures device) (state device) begun);
      told = λ model.
          subst (λ (rs : List LifeReport). AreLivedOn state failures g.D.Device.calls_left g.D.CrashDevice.stable g.D.CrashDevice.pending [] rs device device)
          (sym c.in-Ok.ensures.items) refl;
      within = omega arith;
      counted = omega arith;
      model = (λ model. model, λ model. model);
      sectors = cc;
    }

pub push_reserved-requires : goal.push_reserved-requires
push_reserved-requires g c =
    omega (arith, c.loop-life.invariant.count, c.loop-life.invariant.room, c.loop-life-test.true)

pub loop-life-preserved : goal.loop-life-preserved
loop-life-preserved g c =
    let state = g.D.Device.state in
    let failures = g.D.Device.failures in
    let device = c.args.device in
    let inv = c.loop-life.invariant in
    let lives = c.deref-life-items.result.now in
    let i = c.loop-life.life-index in
    let left = c.loop-life.left in
    let new = c.live-device.result.device in
    let life = c.life-item.result in
    let report = c.in-Ok-report.report in
    let reports = c.loop-life.reports.items in
    record {
      count = omega (
        arith,
        ap (λ (rs : List LifeReport). length rs) c.push_reserved.ensures.items,
        length-append reports (report ∷ []),
        inv.count,
      );
      room = omega (arith, inv.room, c.push_reserved.ensures.capacity);
      over = λ limits k begun.
          let so_far = inv.over limits k begun in
          let then = subst (λ (r : Result LifeReport StoreFault). IfOk r (λ report. IsLifeThen limits
          (λ next after. IsBegun limits next (state new) × (after ≡ failures new)) so_far.last (failures left) life
          report)) c.in-Ok-report.is (c.live-device.ensures.lived limits so_far.last so_far.begun) in
          let more = are_over-more limits k (failures device) (take i lives) reports (state left) (state new)
          (failures left) (failures new) life report so_far then in
          subst (λ (rs : List LifeReport). AreOver limits k (failures device) (take (i + 1) lives) rs (state new)
          (failures new)) (sym c.push_reserved.ensures.items)
          (subst (λ (ls : List Life). AreOver limits k (failures device) ls (reports ++ report ∷ []) (state new)
          (failures new)) (sym (take_with lives i life c.loop-life-test.true c.life-item.is)) more);
      told = λ model.
          let OnDevices = AreLivedOn state failures g.D.Device.calls_left g.D.CrashDevice.stable g.D.CrashDevice.pending in
          let one = subst (λ (r : Result LifeReport StoreFault). IfOk r (λ report. IsLivedOn state failures g.D.Device.calls_left
          g.D.CrashDevice.stable g.D.CrashDevice.pending life report left new)) c.in-Ok-report.is
          (c.live-device.ensures.told (inv.model.1 model)) in
          subst (λ (rs : List LifeReport). OnDevices (take (i + 1) lives) rs device new) (sym c.push_reserved.ensures.items)
          (subst (λ (ls : List Life). OnDevices ls (reports ++ report ∷ []) device new)
          (sym (take_with lives i life c.loop-life-test.true c.life-item.is))
          (lived_on-more state failures g.D.Device.calls_left g.D.CrashDevice.stable g.D.CrashDevice.pending (take i lives) reports device left new life report
          (inv.told model) one));
      within = omega (arith, c.loop-life-test.true);
      counted = omega (arith, inv.counted, c.live-device.ensures.counted);
      model = (λ model. inv.model.0 (c.live-device.ensures.model.0 model), λ model. c.live-device.ensures.model.1 (inv.model.1 model));
      sectors = c.live-device.ensures.sectors ∙ inv.sectors;
    }

pub returns-in-Err-clause-returned : goal.returns-in-Err-clause-returned
returns-in-Err-clause-returned g c = λ limits k begun.
    let state = g.D.Device.state in
    let failures = g.D.Device.failures in
    let device = c.args.device in
    let lives = c.deref-life-items.result.now in
    let i = c.loop-life.life-index in
    let left = c.loop-life.left in
    let new = c.live-device.result.device in
    let life = c.life-item.result in
    let fault = c.in-Err.fault in
    let so_far = c.loop-life.invariant.over limits k begun in
    let around = around-one lives i life c.loop-life-test.true c.life-item.is in
    let stopped = subst (λ (r : Result LifeReport StoreFault). IfErr r (λ fault. IsStopped limits so_far.last
    (failures left) (life ∷ []) fault (state new) (failures new))) c.in-Err.is
    (c.live-device.ensures.stopped limits so_far.last so_far.begun) in
    cut_short limits k (failures device) c.args.plan.now.lives.items (take i lives) around.0 c.loop-life.reports.items
    (state left) (state new) (failures left) (failures new) life fault so_far
    (sym c.deref-life-items.ensures.value ∙ around.1) stopped

pub returns-in-Err-clause-fault : goal.returns-in-Err-clause-fault
returns-in-Err-clause-fault g c =
    subst (λ (r : Result LifeReport StoreFault). IfErr r IsLivesFault) c.in-Err.is c.live-device.ensures.fault

pub returns-in-Err-clause-cause : goal.returns-in-Err-clause-cause
returns-in-Err-clause-cause g c =
    let failures = g.D.Device.failures in
    let left = c.loop-life.left in
    let new = c.live-device.result.device in
    risen-fault c.in-Err.fault (failures c.args.device) (failures left) (failures new) c.loop-life.invariant.counted
    (subst (λ (r : Result LifeReport StoreFault). IfErr r (λ fault. CountsFault fault (failures left) (failures new)))
    c.in-Err.is c.live-device.ensures.cause)

pub returns-in-Err-clause-counted : goal.returns-in-Err-clause-counted
returns-in-Err-clause-counted g c =
    omega (arith, c.loop-life.invariant.counted, c.live-device.ensures.counted)

pub returns-in-Err-clause-model : goal.returns-in-Err-clause-model
returns-in-Err-clause-model g c =
    let inv = c.loop-life.invariant in
    (λ model. inv.model.0 (c.live-device.ensures.model.0 model), λ model. c.live-device.ensures.model.1 (inv.model.1 model))

pub returns-in-Err-clause-sectors : goal.returns-in-Err-clause-sectors
returns-in-Err-clause-sectors g c = c.live-device.ensures.sectors ∙ c.loop-life.invariant.sectors

-- all lives of the plan are over
all_over : (g : Over) (c : After-show g) (limits : Limits) (k : List Entry)
    → IsBegun limits k (g.D.Device.state c.args.device)
    → AreOver limits k (g.D.Device.failures c.args.device) c.args.plan.now.lives.items c.loop-life.reports.items
    (g.D.Device.state c.loop-life.left) (g.D.Device.failures c.loop-life.left)
all_over g c limits k begun =
    let state = g.D.Device.state in
    let failures = g.D.Device.failures in
    let left = c.loop-life.left in
    let whole : take c.loop-life.life-index c.deref-life-items.result.now ≡ c.args.plan.now.lives.items =
    take_all c.loop-life.life-index c.deref-life-items.result.now c.loop-life-test.false
    ∙ c.deref-life-items.ensures.value in
    subst (λ (ls : List Life). AreOver limits k (failures c.args.device) ls c.loop-life.reports.items (state left)
    (failures left))
    whole (c.loop-life.invariant.over limits k begun)

-- and what they left was shown
is_shown : (g : Over) (c : After-show g) (limits : Limits) (k : List Entry)
    → (begun : IsBegun limits k (g.D.Device.state c.args.device))
    → IfOk c.show.result.report (λ report. IsShown (table_of limits (all_over g c limits k begun).last)
    (g.D.Device.failures c.loop-life.left) report.table report.kept (g.D.Device.failures c.show.result.dev))
is_shown g c limits k begun =
    let so_far = all_over g c limits k begun in
    c.show.ensures.shown so_far.begun.model (table_of limits so_far.last) so_far.begun.means

pub returns-clause-reported : goal.returns-clause-reported
returns-clause-reported g c = λ limits k begun.
    let failures = g.D.Device.failures in
    let left = c.loop-life.left in
    let here = (goal.at.returns-clause-reported g c).After-show in
    IfOk-both c.show.result.report _ _ _ (is_shown g here limits k begun) c.show.ensures.reports
    (λ report shown same.
    is_report limits k (failures c.args.device) c.args.plan.now.lives.items c.loop-life.reports.items
    (g.D.Device.state left) (failures left) (failures c.show.result.dev) report (all_over g here limits k begun) shown
    same)

pub returns-clause-told : goal.returns-clause-told
returns-clause-told g c = λ model.
    let state = g.D.Device.state in
    let failures = g.D.Device.failures in
    let device = c.args.device in
    let left = c.loop-life.left in
    let new = c.show.result.dev in
    let lives = c.args.plan.now.lives.items in
    let OnDevices = AreLivedOn state failures g.D.Device.calls_left g.D.CrashDevice.stable g.D.CrashDevice.pending in
    let inv = c.loop-life.invariant in
    let whole : take c.loop-life.life-index c.deref-life-items.result.now ≡ lives =
    take_all c.loop-life.life-index c.deref-life-items.result.now c.loop-life-test.false
    ∙ c.deref-life-items.ensures.value in
    IfOk-both c.show.result.report _ _ _ c.show.ensures.reports c.show.ensures.unfailed
    (λ report same unfailed. record {
      last = left;
      lived = subst (λ (rs : List LifeReport). OnDevices lives rs device left) (sym same)
          (subst (λ (ls : List Life). OnDevices ls c.loop-life.reports.items device left) whole (inv.told model));
      on = c.show.ensures.on (inv.model.1 model);
      unfailed = unfailed;
    })

pub returns-clause-images : goal.returns-clause-images
returns-clause-images g c = λ limits k begun.
    let here = (goal.at.returns-clause-images g c).After-show in
    let so_far = all_over g here limits k begun in
    IfOk-both c.show.result.report _ _ _ (is_shown g here limits k begun) c.show.ensures.reports
    (λ report shown same image is.
    subst (λ (t : TableState). Means image t) (sym shown.same)
    (c.show.ensures.images so_far.begun.model (table_of limits so_far.last) so_far.begun.means image is))

pub returns-clause-returned : goal.returns-clause-returned
returns-clause-returned g c = λ limits k begun.
    let state = g.D.Device.state in
    let failures = g.D.Device.failures in
    let left = c.loop-life.left in
    let new = c.show.result.dev in
    let so_far = all_over g (goal.at.returns-clause-returned g c).After-show limits k begun in
    let table = table_of limits so_far.last in
    IfErr-weaker c.show.result.report _ _
    (λ fault ends.
    cut_at_end limits k (failures c.args.device) c.args.plan.now.lives.items c.loop-life.reports.items (state left)
    (state new) (failures left) (failures new) fault so_far
    (c.show.ensures.images so_far.begun.model table so_far.begun.means) ends)
    (c.show.ensures.refused so_far.begun.model table so_far.begun.means)

pub returns-clause-each : goal.returns-clause-each
returns-clause-each g c =
    let reports = c.loop-life.reports.items in
    let lives = c.args.plan.now.lives.items in
    let inv = c.loop-life.invariant in
    let whole : take c.loop-life.life-index c.deref-life-items.result.now ≡ lives =
    take_all c.loop-life.life-index c.deref-life-items.result.now c.loop-life-test.false
    ∙ c.deref-life-items.ensures.value in
    let so_many : length reports ≡ length lives = omega (
      arith,
      inv.count,
      inv.within,
      c.loop-life-test.false,
      ap (λ (ls : List Life). length ls) c.deref-life-items.ensures.value,
    ) in
    IfOk-weaker c.show.result.report (λ report. report.lives.items ≡ reports)
    (λ report. length report.lives.items ≡ length lives)
    (λ report same. ap (λ (rs : List LifeReport). length rs) same ∙ so_many) c.show.ensures.reports

pub returns-clause-cause : goal.returns-clause-cause
returns-clause-cause g c =
    let failures = g.D.Device.failures in
    let left = c.loop-life.left in
    let new = c.show.result.dev in
    IfErr-weaker c.show.result.report (λ fault. CountsFault fault (failures left) (failures new))
    (λ fault. IsDevice fault → HasRisen (failures c.args.device) (failures new))
    (λ fault counts is.
    risen-fault fault (failures c.args.device) (failures left) (failures new) c.loop-life.invariant.counted counts is)
    c.show.ensures.cause

pub returns-clause-counted : goal.returns-clause-counted
returns-clause-counted g c = omega (arith, c.loop-life.invariant.counted, c.show.ensures.counted)

pub returns-clause-model : goal.returns-clause-model
returns-clause-model g c =
    let inv = c.loop-life.invariant in
    (λ model. inv.model.0 (c.show.ensures.model.0 model), λ model. c.show.ensures.model.1 (inv.model.1 model))

pub returns-clause-sectors : goal.returns-clause-sectors
returns-clause-sectors g c = c.show.ensures.sectors ∙ c.loop-life.invariant.sectors
