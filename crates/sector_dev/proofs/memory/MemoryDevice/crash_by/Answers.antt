use Rattle.std.proofs.Common.{◌≡◌, ◌++◌, ◌∙◌, length, take, drop, map, refl, ap, arith, rules}
use Rattle.sector_dev.specs.Crash.{left_by}
use Rattle.sector_dev.specs.Memory.{disk_after, at_rest}
use Rattle.sector_dev.proofs.Crashes.{rest_is_stable, rest_is_disk, crash_is_image, played_of}
use Rattle.sector_dev.proofs.Moments.{length-shown}
use Rattle.sector_dev.proofs.Settled.{written_back}
use Rattle.sector_dev.proofs.Wholes.{left_whole, no_writes_whole}
use Rattle.sector_dev.proofs.memory.MemoryDevice.crash_by.Goals as goal

pub copy_from_slice-requires : goal.copy_from_slice-requires
copy_from_slice-requires g c =
    let device = c.args.self.now in
    let as_many : length device.seen.items ≡ length device.base.items = ap length device.is_shown
    ∙ length-shown device.base.items device.calls.items in
    omega (arith, as_many, c.deref-2.ensures.len)

pub invariant_of-self-clause-whole : goal.invariant_of-self-clause-whole
invariant_of-self-clause-whole g c =
    let m = c.args.self.now in
    let base = m.base in
    let fates = map g.F.TellsFate.fate_of c.args.fates.now in
    let next = take base.len (c.play.new.sectors ++ drop (length c.play.new.sectors) base.items) in
    let length_kept : length c.play.new.sectors ≡ length base.items =
    omega (arith, c.play.auto.sectors, c.deref_mut.ensures.len) in
    let same : next ≡ c.play.new.sectors = written_back base.len c.play.new.sectors base.items length_kept (omega arith) in
    left_whole base.items m.calls.items fates next m.whole m.whole_writes (same
    ∙ played_of c.deref_mut.result.now base.items c.deref.result.now m.calls.items fates
    c.play.new.sectors c.deref_mut.ensures.value c.deref.ensures.value c.play.ensures)

pub invariant_of-self-clause-whole_writes : goal.invariant_of-self-clause-whole_writes
invariant_of-self-clause-whole_writes g c = no_writes_whole c.clear.new.self.items c.clear.ensures.items

pub returns : goal.returns
returns g c =
    let base = c.args.self.now.base in
    let calls = c.args.self.now.calls.items in
    let d = disk_after (at_rest base.items) calls in
    let fates = map g.F.TellsFate.fate_of c.args.fates.now in
    let left = left_by d.stable d.pending fates in
    let next = take base.len (c.play.new.sectors ++ drop (length c.play.new.sectors) base.items) in
    let length_kept : length c.play.new.sectors ≡ length base.items =
    omega (arith, c.play.auto.sectors, c.deref_mut.ensures.len) in
    let same : next ≡ c.play.new.sectors = written_back base.len c.play.new.sectors base.items length_kept (omega arith) in
    let is : next ≡ left = same
    ∙ played_of c.deref_mut.result.now base.items c.deref.result.now calls fates
    c.play.new.sectors c.deref_mut.ensures.value c.deref.ensures.value c.play.ensures in
    let next_calls = c.clear.new.self.items in
    let cleared = c.clear.ensures.items in
    record {
      sectors = ap length same ∙ length_kept;
      disk = rest_is_disk left next next_calls cleared is;
      left = rest_is_stable left next next_calls cleared is;
      image = crash_is_image d fates next next_calls cleared is;
      calls_left = refl;
      failures = refl;
      stops = search rules;
      failed_pending = refl;
      room = omega (arith, c.clear.ensures.len, c.clear.ensures.capacity);
    }
