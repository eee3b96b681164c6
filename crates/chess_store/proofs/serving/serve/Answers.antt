use Rattle.std.proofs.Common.{◌∙◌, ◌↔◌, ap, ◌≡◌, ℕ, sym, subst, arith, map}
use Rattle.chess_entry.specs.State.{TableState}
use Rattle.chess_store.proofs.MeansLemmas.{one_table}
use Rattle.chess_store.specs.Devices.{HasGoneOn}
use Rattle.chess_store.proofs.DeviceLemmas.{gone_on-more}
use Rattle.chess_store.specs.Kept.{IsStoreKept}
use Rattle.chess_store.specs.Serving.{IsServed}
use Rattle.chess_store.proofs.ServingLemmas.{judged-entries, served-opened, served-refused, unopened, opening_fault}
use Rattle.chess_store.specs.Serving.{CountsEnd}
use Rattle.chess_store.proofs.serving.serve.Goals as goal

pub report_of-requires-clause-begun : goal.report_of-requires-clause-begun
report_of-requires-clause-begun g c =
    let t = c.submit_all-submitted.ensures.tallied in
    omega (
      arith,
      c.shown-begun.ensures,
      t.shown,
      judged-entries c.in-Ok.opened.table t.course.answered t.kept t.is_course.answered,
    )

pub returns-in-Ok-clause-served : goal.returns-in-Ok-clause-served
returns-in-Ok-clause-served g c = λ model table means.
    let state = g.D.Device.state in
    let failures = g.D.Device.failures in
    let device = c.args.device in
    let store = c.in-Ok.opened in
    let left = c.submit_all-submitted.new.store.journal.device in
    let batches = map (λ b. b.items) c.args.batches.now in
    let submitted = c.submit_all-submitted.result in
    let report = c.report_of.result in
    let reads = (state device).reads in
    let same : store.table ≡ table =
    one_table reads store.table table (c.in-Ok.ensures.means model)
    (means reads ((g.met.D.Device.coherent device).reads_are_image model)) in
    let served = served-opened store.table batches submitted (failures store.journal.device)
    (IsStoreKept store) (state left)
    (failures left) c.shown-begun.result report c.submit_all-submitted.ensures.tallied (c.in-Ok.ensures.kept model)
    c.limits-limits.ensures.table c.shown-begun.ensures c.report_of.ensures.opened c.report_of.ensures.acknowledged c.report_of.ensures.accepted
    c.report_of.ensures.unsent
    (c.report_of.ensures.failures ∙ c.failure_count.ensures ∙ ap failures c.into_device-left.ensures) in
    subst (λ (t : TableState). IsServed t batches (failures device) report submitted.fault (state c.into_device-left.result)
    (failures c.into_device-left.result)) same
    (subst (λ (d : _). IsServed store.table batches (failures device) report submitted.fault (state d) (failures d))
    (sym c.into_device-left.ensures)
    (subst (λ (n : ℕ). IsServed store.table batches n report submitted.fault (state left) (failures left))
    c.in-Ok.ensures.cause served))

pub returns-in-Err-clause-served : goal.returns-in-Err-clause-served
returns-in-Err-clause-served g c = λ model table means.
    let refused = c.in-Err.refused in
    served-refused table (map (λ b. b.items) c.args.batches.now) (g.D.Device.failures c.args.device) refused.fault
    (g.D.Device.state refused.dev) (g.D.Device.failures refused.dev) c.failure_count-in-Err.result
    (unopened refused.fault (g.D.Device.failures c.args.device) (g.D.Device.failures refused.dev)
    c.in-Err.ensures.fault
    (c.in-Err.ensures.readable model (λ image is. record { table = table; means = means image is }))
    c.in-Err.ensures.cause_refused)
    (λ image is. means image (c.in-Err.ensures.images_refused model image is)) c.failure_count-in-Err.ensures

pub returns-in-Err-clause-fault : goal.returns-in-Err-clause-fault
returns-in-Err-clause-fault g c = opening_fault c.in-Err.refused.fault c.in-Err.ensures.fault

pub returns-in-Ok-clause-counts : goal.returns-in-Ok-clause-counts
returns-in-Ok-clause-counts g c =
    let failures = g.D.Device.failures in
    let submitted = c.submit_all-submitted.result in
    subst (λ (d : _). CountsEnd submitted.fault (failures c.args.device) (failures d)) (sym c.into_device-left.ensures)
    (subst (λ (n : ℕ). CountsEnd submitted.fault n (failures c.submit_all-submitted.new.store.journal.device))
    c.in-Ok.ensures.cause c.submit_all-submitted.ensures.counts)

pub returns-in-Ok-clause-model : goal.returns-in-Ok-clause-model
returns-in-Ok-clause-model g c =
    let state = g.D.Device.state in
    let goes = c.in-Ok.ensures.goes in
    let submitted = c.submit_all-submitted.ensures in
    subst (λ (d : _). (state d).keeps_model ↔ (state c.args.device).keeps_model) (sym c.into_device-left.ensures)
    (λ model. goes.model.0 (submitted.model.0 model), λ model. submitted.model.1 (goes.model.1 model))

pub returns-in-Ok-clause-sectors : goal.returns-in-Ok-clause-sectors
returns-in-Ok-clause-sectors g c =
    ap g.D.Device.sector_count c.into_device-left.ensures ∙ c.submit_all-submitted.ensures.sectors ∙ c.in-Ok.ensures.goes.size

pub returns-in-Ok-clause-on : goal.returns-in-Ok-clause-on
returns-in-Ok-clause-on g c = λ model.
    let state = g.D.Device.state in
    let opened = c.in-Ok.ensures in
    let time = opened.goes.time model in
    subst (λ (d : _). HasGoneOn (state c.args.device) (state d)) (sym c.into_device-left.ensures)
    (gone_on-more _ _ _ (record { unstopped = time.unstopped; later = time.later })
    (c.submit_all-submitted.ensures.on (opened.kept model)))

pub returns-in-Err-clause-on : goal.returns-in-Err-clause-on
returns-in-Err-clause-on g c = λ model.
    let time = c.in-Err.ensures.goes_refused.time model in record { unstopped = time.unstopped; later = time.later }

pub returns-in-Ok-clause-unwritten : goal.returns-in-Ok-clause-unwritten
returns-in-Ok-clause-unwritten g c = λ model none.
    let opened = c.report_of.ensures.opened in
    absurd (cc)

pub returns-in-Err-clause-unwritten : goal.returns-in-Err-clause-unwritten
returns-in-Err-clause-unwritten g c = λ model none. c.in-Err.ensures.images_refused model

pub returns-in-Ok-clause-told : goal.returns-in-Ok-clause-told
returns-in-Ok-clause-told g c = c.report_of.ensures.failures ∙ c.failure_count.ensures

pub returns-in-Ok-clause-unopened : goal.returns-in-Ok-clause-unopened
returns-in-Ok-clause-unopened g c = λ none.
    let opened = c.report_of.ensures.opened in
    absurd (cc)

pub returns-in-Ok-clause-taken : goal.returns-in-Ok-clause-taken
returns-in-Ok-clause-taken g c = λ model none.
    let opened = c.report_of.ensures.opened in
    absurd (cc)

pub returns-in-Err-clause-taken : goal.returns-in-Err-clause-taken
returns-in-Err-clause-taken g c = λ model none. c.in-Err.ensures.calls_refused model
