use Rattle.std.proofs.Common.{[], ℕ, List, get_or, Ok, Result, subst, arith}
use Rattle.std.proofs.lemmas.List.{take_all}
use Rattle.sector_dev.specs.declared.device.DeviceFault.{DeviceFault}
use Rattle.sector_dev.specs.Device.{WithOrWithout}
use Rattle.sector_dev.specs.Runs.{WithWrites, ArePending}
use Rattle.sector_dev.proofs.Runs.{run_started, run_goes_on, none_pending, failed_counted}
use Rattle.test_disk.specs.Changes.{writes_from}
use Rattle.test_disk.proofs.WriteLemmas.{during_one, one_pending, one_failed}
use Rattle.test_disk.proofs.device_callers.write_all.Goals as goal

pub returns-in_err-write-clause-run : goal.returns-in_err-write-clause-run
returns-in_err-write-clause-run g c =
    let state = g.D.Device.state in
    let device = c.args.device.now in
    let mid = c.loop-sector.device in
    let sectors = c.args.sectors.now in
    let i = c.loop-sector.sector-index in
    let w = c.write.ensures in
    let so_far = c.loop-sector.invariant in
    run_goes_on state g.D.Device.sector_count g.D.Device.failures device mid c.write.new.self tt
    c.from_residual.result (WithWrites (writes_from c.args.from sectors) (state device).image)
    (WithOrWithout c.loop-sector.at (get_or sectors i []) (state mid).image) so_far.run
    (record {
      model = w.model;
      size = w.sectors;
      time = w.time;
      cause = failed_counted c.from_residual.result (g.D.Device.failures mid) (g.D.Device.failures c.write.new.self)
          c.from_residual.ensures.0 c.in_err-write.ensures.cause;
    })
    (λ model. during_one (state device) (state mid) (g.D.Device.sector_count device) (g.met.D.Device.coherent device)
    model c.args.from sectors c.requires i c.loop-sector.at c.loop-sector-test.true so_far.at (so_far.pending model))

pub returns-in_err-write-clause-now : goal.returns-in_err-write-clause-now
returns-in_err-write-clause-now g c = λ model.
    let state = g.D.Device.state in
    let device = c.args.device.now in
    let mid = c.loop-sector.device in
    let so_far = c.loop-sector.invariant in
    one_failed (state device) (state mid) (g.D.Device.sector_count device) (g.met.D.Device.coherent device) model
    c.args.from c.args.sectors.now c.requires c.loop-sector.sector-index c.loop-sector.at c.loop-sector-test.true
    so_far.at (so_far.pending model) (state c.write.new.self) (c.in_err-write.ensures.err (so_far.run.model.1 model))

pub loop-sector-init : goal.loop-sector-init
loop-sector-init g c =
    let state = g.D.Device.state in
    let device = c.args.device.now in
    record {
      at = omega arith;
      run = run_started state g.D.Device.sector_count g.D.Device.failures device tt
          (WithWrites (writes_from c.args.from c.args.sectors.now) (state device).image);
      pending = λ model. none_pending (state device);
    }

pub loop-sector-preserved : goal.loop-sector-preserved
loop-sector-preserved g c =
    let state = g.D.Device.state in
    let device = c.args.device.now in
    let mid = c.loop-sector.device in
    let sectors = c.args.sectors.now in
    let i = c.loop-sector.sector-index in
    let w = c.write.ensures in
    let so_far = c.loop-sector.invariant in
    let all_fine : Result (Unit {0}) DeviceFault = Ok tt in
    record {
      at = omega (arith, so_far.at);
      run = run_goes_on state g.D.Device.sector_count g.D.Device.failures device mid c.write.new.self tt
          all_fine (WithWrites (writes_from c.args.from sectors) (state device).image)
          (WithOrWithout c.loop-sector.at (get_or sectors i []) (state mid).image) so_far.run
          (record { model = w.model; size = w.sectors; time = w.time; cause = c.in_ok-write.ensures.cause })
          (λ model. during_one (state device) (state mid) (g.D.Device.sector_count device)
          (g.met.D.Device.coherent device) model c.args.from sectors c.requires i c.loop-sector.at
          c.loop-sector-test.true so_far.at (so_far.pending model));
      pending = λ model. one_pending (state device) (state mid) (g.D.Device.sector_count device)
          (g.met.D.Device.coherent device) model c.args.from sectors c.requires i c.loop-sector.at
          c.loop-sector-test.true so_far.at (so_far.pending model) (state c.write.new.self)
          (c.in_ok-write.ensures.ok (so_far.run.model.1 model));
    }

pub returns : goal.returns
returns g c =
    let old = g.D.Device.state c.args.device.now in
    let new = g.D.Device.state c.loop-sector.device in
    let so_far = c.loop-sector.invariant in
    let all_written = take_all c.loop-sector.sector-index c.args.sectors.now (omega (arith, c.loop-sector-test.false)) in
    let pending = λ (model : old.keeps_model).
    subst (λ (values : List (List ℕ)). ArePending (writes_from c.args.from values) old new) all_written
    (so_far.pending model) in
    record { run = so_far.run; now = λ model image now. ((pending model).images image).0 now; pending = pending }
