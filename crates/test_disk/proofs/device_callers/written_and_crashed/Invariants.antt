use Rattle.std.proofs.Common.{◌≡◌, take}
use Rattle.sector_dev.specs.InMemory.{disk_of, sector_count_of, zeros}
use Rattle.test_disk.specs.Changes.{writes_from}
use Rattle.test_disk.proofs.device_callers.written_and_crashed.Given as goal

abbrev pub invariant-loop-sector : goal.invariant-loop-sector
invariant-loop-sector l =
    record {
      at : l.at ≡ l.sector-index;
      count : sector_count_of l.device ≡ l.fn.count;
      disk : disk_of l.device
          ≡ record { stable = zeros l.fn.count; pending = writes_from 0 (take l.sector-index l.sectors) };
    }
