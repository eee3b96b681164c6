use Rattle.std.proofs.Common.{◌∙◌, List, ap, subst}
use Rattle.std.proofs.lemmas.List.{map-id}
use Rattle.sector_dev.specs.declared.device.Fate.{Fate}
use Rattle.sector_dev.specs.Crash.{left_by}
use Rattle.sector_dev.specs.Device.{IsStable}
use Rattle.sector_dev.specs.InMemory.{disk_of, state_of}
use Rattle.sector_dev.specs.Memory.{Disk}
use Rattle.sector_dev.proofs.memory.MemoryDeviceCrashDevice.crash_as.Goals as goal

pub returns-clause-left : goal.returns-clause-left
returns-clause-left c = λ model.
    let d = disk_of c.args.self.now in
    subst (λ (fates : List Fate). IsStable (left_by d.stable d.pending fates) (state_of c.crash_by.new.self))
    (map-id c.args.fates.now) c.crash_by.ensures.left

pub returns-clause-stable : goal.returns-clause-stable
returns-clause-stable c = λ model.
    let d = disk_of c.args.self.now in
    ap (λ (e : Disk). e.stable) c.crash_by.ensures.disk
    ∙ ap (λ (fates : List Fate). left_by d.stable d.pending fates) (map-id c.args.fates.now)
