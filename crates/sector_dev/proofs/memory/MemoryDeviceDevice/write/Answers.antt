use Rattle.std.proofs.Common.{length, inr, sym, ◌∙◌, ap, arith, rules}
use Rattle.std.specs.Prelude.{Bool, ◌||◌}
use Rattle.sector_dev.specs.declared.memory.Call.TheVariants.{Written}
use Rattle.sector_dev.proofs.Moments.{recorded, written_shown, written_is_pending, written_elapses, length-shown, at_ok, at_err, at_no_err}
use Rattle.sector_dev.proofs.Wholes.{bytes_whole, written_whole}
use Rattle.sector_dev.proofs.memory.MemoryDeviceDevice.write.Goals as goal
use Rattle.sector_dev.proofs.memory.MemoryDeviceDevice.write.Goals.{else-is_err-via-then-is_err+else-self, else-is_err-via-else-is_err}

pub put-requires : goal.put-requires
put-requires c =
    let m = c.args.self.now in
    omega (arith, c.requires, ap length m.is_shown, length-shown m.base.items m.calls.items)

pub invariant_of-self-2-clause-is_shown : goal.invariant_of-self-2-clause-is_shown
invariant_of-self-2-clause-is_shown c =
    let m = c.args.self.now in
    let e = c.put.ensures in
    written_shown c.put.result m.base.items m.calls.items c.put.new.calls.items m.seen.items c.put.new.seen.items
    c.args.at c.args.from.now e.calls e.calls_err e.seen e.seen_err m.is_shown

pub returns-clause-call : goal.returns-clause-call
returns-clause-call c =
    let m = c.args.self.now in
    let pending = written_is_pending m.base.items m.calls.items c.put.new.calls.items c.args.at c.args.from.now
    c.requires c.in_ok-put.ensures.calls in
    record {
      sectors = search rules;
      model = search rules;
      ok = λ model. at_ok c.take_one-taken.result _ pending;
      err = λ model. at_err c.take_one-taken.result _
          (record { reads = inr pending.reads; images = inr pending.images });
      time = λ model. written_elapses m.base.items m.calls.items c.put.new.calls.items c.args.at c.args.from.now
          c.requires c.in_ok-put.ensures.calls;
      cause = search rules;
      calls_left = search rules;
    }

pub returns-clause-pending : goal.returns-clause-pending
returns-clause-pending c =
    let m = c.args.self.now in
    at_ok c.take_one-taken.result _
    (recorded m.base.items m.calls.items c.put.new.calls.items (Written c.args.at c.args.from.now)
    c.in_ok-put.ensures.calls)

pub returns-clause-failed : goal.returns-clause-failed
returns-clause-failed c =
    let m = c.args.self.now in
    let pending = recorded m.base.items m.calls.items c.put.new.calls.items (Written c.args.at c.args.from.now)
    c.in_ok-put.ensures.calls in
    elim c.else-is_err.branch [
      | else-is_err-via-then-is_err+else-self w ↦
          let failed = sym c.is_err.ensures.value ∙ w.if-is_err.true in
          at_err c.take_one-taken.result _ (inr (record {
            stopped = search rules;
            first = w.if-self.false;
            noted = ap (λ (b : Bool). b || c.is_err-2.result) w.if-self.false ∙ (c.is_err-2.ensures.value ∙ failed);
            pending = pending;
          }))
      | else-is_err-via-else-is_err w ↦
          at_no_err c.take_one-taken.result _ (sym c.is_err.ensures.value ∙ w.if-is_err.false)
    ]

pub invariant_of-self-2-clause-whole_writes : goal.invariant_of-self-2-clause-whole_writes
invariant_of-self-2-clause-whole_writes c =
    let m = c.args.self.now in
    let e = c.put.ensures in
    written_whole c.put.result m.calls.items c.put.new.calls.items c.args.at c.args.from.now e.calls e.calls_err
    m.whole_writes (bytes_whole c.args.from.now c.fits-from c.told-from)
