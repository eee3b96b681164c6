use Rattle.std.proofs.Common.{◌≡◌, ◌+◌, take, Ok, Result}
use Rattle.sector_dev.specs.declared.device.DeviceFault.{DeviceFault}
use Rattle.sector_dev.specs.Runs.{IsRun, WithWrites, ArePending}
use Rattle.test_disk.specs.Changes.{writes_from}
use Rattle.test_disk.proofs.device_callers.write_all.Given as goal

abbrev pub invariant-loop-sector : goal.invariant-loop-sector
invariant-loop-sector g l =
    let old = g.D.Device.state l.fn.device in
    let now = g.D.Device.state l.device in
    let all_fine : Result (Unit {0}) DeviceFault = Ok tt in
    record {
      at : l.at ≡ l.fn.from + l.sector-index;
      run : IsRun g.D.Device.state g.D.Device.sector_count g.D.Device.failures l.fn.device l.device all_fine
          (WithWrites (writes_from l.fn.from l.sectors) old.image);
      pending : old.keeps_model → ArePending (writes_from l.fn.from (take l.sector-index l.sectors)) old now;
    }
