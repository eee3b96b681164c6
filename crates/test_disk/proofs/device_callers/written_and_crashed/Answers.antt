use Rattle.std.proofs.Common.{◌∙◌, ℕ, List, ap, arith}
use Rattle.std.proofs.lemmas.List.{take_all}
use Rattle.sector_dev.specs.InMemory.{disk_of, state_of, zeros}
use Rattle.sector_dev.specs.Crash.{left_by}
use Rattle.sector_dev.specs.Memory.{Disk}
use Rattle.test_disk.specs.Changes.{writes_from}
use Rattle.test_disk.proofs.ChangeLemmas.{stable_at_rest}
use Rattle.test_disk.proofs.WriteLemmas.{one_noted}
use Rattle.test_disk.proofs.device_callers.written_and_crashed.Goals as goal

pub loop-sector-preserved : goal.loop-sector-preserved
loop-sector-preserved c =
    let so_far = c.loop-sector.invariant in
    record {
      at = omega (arith, so_far.at);
      count = c.in-Ok.ensures.call.sectors ∙ so_far.count;
      disk = c.in-Ok.ensures.pending
          ∙ one_noted (disk_of c.loop-sector.device) (zeros c.args.count) c.args.sectors.now c.loop-sector.sector-index
          c.loop-sector.at c.loop-sector-test.true so_far.at so_far.disk;
    }

pub returns : goal.returns
returns c =
    let fates = c.args.fates.now in
    let stable = c.crash_as.ensures.left tt in
    let all_written = take_all c.loop-sector.sector-index c.args.sectors.now (omega (arith, c.loop-sector-test.false)) in
    record {
      at_rest = stable_at_rest _ (state_of c.crash_as.new.self) tt stable;
      left = stable.reads
          ∙ (ap (λ (d : Disk). left_by d.stable d.pending fates) c.loop-sector.invariant.disk
          ∙ ap (λ (values : List (List ℕ)). left_by (zeros c.args.count) (writes_from 0 values) fates) all_written);
    }
