use Rattle.std.proofs.Common.{◌≡◌, ◌∙◌, arith, ap, sym, subst}
use Rattle.chess_entry.specs.State.{TableState}
use Rattle.chess_entry.specs.Table.{IsTable}
use Rattle.chess_store.specs.Devices.{HasGoneOn}
use Rattle.chess_store.proofs.MeansLemmas.{one_table}
use Rattle.chess_store.proofs.ServingLemmas.{unopened, opening_fault, counted-fault}
use Rattle.chess_store.proofs.living.show.Goals as goal

pub returns-in-Err-clause-cause : goal.returns-in-Err-clause-cause
returns-in-Err-clause-cause g c = c.in-Err.ensures.cause_refused

pub returns-in-Ok-clause-shown : goal.returns-in-Ok-clause-shown
returns-in-Ok-clause-shown g c = λ model table means.
    let state = g.D.Device.state in
    let device = c.args.device in
    let reads = (state device).reads in
    let given = c.into_parts-device.ensures in
    let same : c.in-Ok.store.table ≡ table =
    one_table reads c.in-Ok.store.table table (c.in-Ok.ensures.means model)
    (means reads ((g.met.D.Device.coherent device).reads_are_image model)) in
    record {
      same = given.table ∙ same;
      count = c.entries.ensures ∙ ap (λ (t : TableState). t.entries) (given.table ∙ same);
      is_table = subst (λ (t : TableState). IsTable t) (sym given.table) c.limits-limits.ensures.table;
      unfailed = ap g.D.Device.failures given.device ∙ c.in-Ok.ensures.cause;
    }

pub returns-in-Ok-clause-images : goal.returns-in-Ok-clause-images
returns-in-Ok-clause-images g c = λ model table means image is.
    means image (c.in-Ok.ensures.images model image
    (subst (λ (d : _). (g.D.Device.state d).image image) c.into_parts-device.ensures.device is))

pub returns-in-Ok-clause-bounds : goal.returns-in-Ok-clause-bounds
returns-in-Ok-clause-bounds g c =
    subst (λ (t : TableState). IsTable t) (sym c.into_parts-device.ensures.table) c.limits-limits.ensures.table

pub returns-in-Ok-clause-counted : goal.returns-in-Ok-clause-counted
returns-in-Ok-clause-counted g c =
    omega (arith, ap g.D.Device.failures c.into_parts-device.ensures.device ∙ c.in-Ok.ensures.cause)

pub returns-in-Err-clause-fault : goal.returns-in-Err-clause-fault
returns-in-Err-clause-fault g c = opening_fault c.in-Err.refused.fault c.in-Err.ensures.fault

pub returns-in-Err-clause-counted : goal.returns-in-Err-clause-counted
returns-in-Err-clause-counted g c =
    let refused = c.in-Err.refused in
    counted-fault refused.fault (g.D.Device.failures c.args.device) (g.D.Device.failures refused.dev)
    c.in-Err.ensures.cause_refused

pub returns-in-Err-clause-refused : goal.returns-in-Err-clause-refused
returns-in-Err-clause-refused g c = λ model table means.
    let refused = c.in-Err.refused in
    unopened refused.fault (g.D.Device.failures c.args.device) (g.D.Device.failures refused.dev)
    c.in-Err.ensures.fault
    (c.in-Err.ensures.readable model (λ image is. record { table = table; means = means image is }))
    c.in-Err.ensures.cause_refused

pub returns-in-Err-clause-images : goal.returns-in-Err-clause-images
returns-in-Err-clause-images g c = λ model table means image is.
    means image (c.in-Err.ensures.images_refused model image is)

pub returns-in-Ok-clause-on : goal.returns-in-Ok-clause-on
returns-in-Ok-clause-on g c = λ model.
    let state = g.D.Device.state in
    let time = c.in-Ok.ensures.goes.time model in
    subst (λ (d : _). HasGoneOn (state c.args.device) (state d)) (sym c.into_parts-device.ensures.device)
    (record { unstopped = time.unstopped; later = time.later })

pub returns-in-Err-clause-on : goal.returns-in-Err-clause-on
returns-in-Err-clause-on g c = λ model.
    let time = c.in-Err.ensures.goes_refused.time model in record { unstopped = time.unstopped; later = time.later }

pub returns-in-Ok-clause-unfailed : goal.returns-in-Ok-clause-unfailed
returns-in-Ok-clause-unfailed g c = ap g.D.Device.failures c.into_parts-device.ensures.device ∙ c.in-Ok.ensures.cause
