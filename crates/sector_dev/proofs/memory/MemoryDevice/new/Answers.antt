use Rattle.std.proofs.Common.{◌≡◌, refl, rules, length, ap, ◌∙◌}
use Rattle.std.specs.Prelude.{replicate}
use Rattle.std.proofs.lemmas.List.{length-replicate}
use Rattle.sector_dev.specs.declared.device.Sector.TheVariants.{Bytes}
use Rattle.sector_dev.specs.Image.{Sectors}
use Rattle.sector_dev.specs.InMemory.{zeros}
use Rattle.sector_dev.proofs.Crashes.{rest_is_stable}
use Rattle.sector_dev.proofs.Wholes.{zeros_whole, no_writes_whole}
use Rattle.sector_dev.proofs.memory.MemoryDevice.new.Goals as goal

pub returns : goal.returns
returns c =
    let sectors = c.args.sectors in
    let base : Sectors = c.resize.new.self.items in
    let is : base ≡ zeros sectors = search rules in
    record {
      keeps_model = tt;
      sector_count = ap length is ∙ length-replicate sectors (Bytes (replicate 512 0));
      stable = rest_is_stable (zeros sectors) base c.new.result.items c.new.ensures.items is;
      disk = search rules;
      calls_left = refl;
      failed_pending = refl;
      failures = refl;
    }

pub invariant_of-result-clause-whole : goal.invariant_of-result-clause-whole
invariant_of-result-clause-whole c = zeros_whole c.args.sectors c.resize.new.self.items (search rules)

pub invariant_of-result-clause-whole_writes : goal.invariant_of-result-clause-whole_writes
invariant_of-result-clause-whole_writes c = no_writes_whole c.new.result.items c.new.ensures.items
