use Rattle.std.proofs.Common.{ℕ, ◌≡◌, ◌≤◌, ◌∙◌, ap, sym, subst, arith, List, Option, None, IfSome, map, Vec, Global}
use Rattle.std.specs.Prelude.{IsSome}
use Rattle.rec_codec.specs.declared.limits.Limits.{Limits}
use Rattle.rec_codec.specs.declared.limits.Version.TheVariants.{Two}
use Rattle.rec_codec.specs.declared.record.Entry.{Entry}
use Rattle.rec_codec.specs.Limits.{IsInRange}
use Rattle.sector_dev.specs.Image.{Sectors}
use Rattle.sector_dev.specs.Device.{HasRisen}
use Rattle.sector_dev.specs.Crash.{left_by}
use Rattle.sector_journal.specs.Calls.{TakesAnOpening}
use Rattle.chess_entry.specs.Games.{table_of}
use Rattle.chess_entry.specs.declared.commands.Command.{Command}
use Rattle.chess_store.specs.declared.fault.StoreFault.{StoreFault}
use Rattle.chess_store.specs.Faults.{CountsFault}
use Rattle.chess_store.specs.Means.{Means}
use Rattle.chess_store.specs.Lives.{IsBegun, batches_of}
use Rattle.chess_store.specs.Serving.{IsServed, CountsEnd}
use Rattle.chess_store.specs.Stops.{IsLivesFault}
use Rattle.chess_store.proofs.ServingLemmas.{counted-end}
use Rattle.chess_store.proofs.DeviceLemmas.{gone_on-more}
use Rattle.chess_store.proofs.LivesLemmas.{Means-in_range, lived_to, life_stopped, passed_on, failed_unopened, armed_unopened}
use Rattle.chess_store.proofs.living.live.Given.{Over}
use Rattle.chess_store.proofs.living.live.Goals.{After-returned}
use Rattle.chess_store.proofs.living.live.Goals as goal

pub returns-in-Some-clause-fault : goal.returns-in-Some-clause-fault
returns-in-Some-clause-fault g c =
    let passed = passed_on c.args.life.now.calls c.serve-left.result.fault c.in-Some.fault
    (sym c.returned.ensures ∙ c.in-Some.is) in
    subst (λ (x : Option StoreFault). IfSome x IsLivesFault) passed.is c.serve-left.ensures.fault

pub returns-in-Some-clause-cause : goal.returns-in-Some-clause-cause
returns-in-Some-clause-cause g c =
    let failures = g.D.Device.failures in
    let left = c.serve-left.result in
    let passed = passed_on c.args.life.now.calls left.fault c.in-Some.fault (sym c.returned.ensures ∙ c.in-Some.is) in
    subst (λ (n : ℕ). CountsFault c.in-Some.fault n (failures left.device)) c.limit.ensures.failures
    (subst (λ (x : Option StoreFault). CountsEnd x (failures c.limit.new.device) (failures left.device)) passed.is
    c.serve-left.ensures.counts)

counted : (g : Over) (c : After-returned g)
    → g.D.Device.failures c.args.device ≤ g.D.Device.failures c.serve-left.result.device
counted g c =
    let failures = g.D.Device.failures in
    let left = c.serve-left.result in
    omega (
      arith,
      counted-end left.fault (failures c.limit.new.device) (failures left.device) c.serve-left.ensures.counts,
      c.limit.ensures.failures,
    )

pub returns-in-Some-clause-counted : goal.returns-in-Some-clause-counted
returns-in-Some-clause-counted g c = counted g (goal.at.returns-in-Some-clause-counted g c).After-returned

pub returns-in-None-clause-counted : goal.returns-in-None-clause-counted
returns-in-None-clause-counted g c =
    omega (arith, counted g (goal.at.returns-in-None-clause-counted g c).After-returned, c.crash_as.ensures.failures)

in_range : (g : Over) (c : After-returned g) (limits : Limits) (k : List Entry) → IsBegun limits k (g.D.Device.state c.args.device)
    → IsInRange Two limits
in_range g c limits k begun =
    let reads = (g.D.Device.state c.args.device).reads in
    Means-in_range reads (table_of limits k)
    (begun.means reads ((g.met.D.Device.coherent c.args.device).reads_are_image begun.model))

-- its batches were served, from the failures on that the device had before its calls were limited
was_served : (g : Over) (c : After-returned g) (limits : Limits) (k : List Entry) → IsBegun limits k (g.D.Device.state c.args.device)
    → IsServed (table_of limits k) (batches_of c.args.life.now) (g.D.Device.failures c.args.device)
    c.serve-left.result.report c.serve-left.result.fault (g.D.Device.state c.serve-left.result.device)
    (g.D.Device.failures c.serve-left.result.device)
was_served g c limits k begun =
    let state = g.D.Device.state in
    let failures = g.D.Device.failures in
    let left = c.serve-left.result in
    let table = table_of limits k in
    let served = c.serve-left.ensures.served (c.limit.ensures.model.1 begun.model) table
    (λ image is. begun.means image (c.limit.ensures.images begun.model image is)) in
    subst (λ (n : ℕ). IsServed table (batches_of c.args.life.now) n left.report left.fault (state left.device)
    (failures left.device)) c.limit.ensures.failures
    (subst (λ (bs : List (Vec Command Global)). IsServed table (map (λ b. b.items) bs)
    (failures c.limit.new.device) left.report left.fault (state left.device) (failures left.device))
    c.deref.ensures.value served)

pub returns-in-Some-clause-stopped : goal.returns-in-Some-clause-stopped
returns-in-Some-clause-stopped g c = λ limits k begun.
    let failures = g.D.Device.failures in
    let left = c.serve-left.result in
    let here = (goal.at.returns-in-Some-clause-stopped g c).After-returned in
    life_stopped limits k (failures c.args.device) c.args.life.now left.report left.fault c.in-Some.fault
    (g.D.Device.state left.device) (failures left.device) (in_range g here limits k begun) begun.lawful
    (was_served g here limits k begun) (sym c.returned.ensures ∙ c.in-Some.is)

pub returns-in-None-clause-lived : goal.returns-in-None-clause-lived
returns-in-None-clause-lived g c = λ limits k begun.
    let state = g.D.Device.state in
    let failures = g.D.Device.failures in
    let left = c.serve-left.result in
    let here = (goal.at.returns-in-None-clause-lived g c).After-returned in
    let kept = c.serve-left.ensures.model.1 (c.limit.ensures.model.1 begun.model) in
    let lived = lived_to limits k (failures c.args.device) c.args.life.now left.report left.fault (state left.device)
    (failures left.device) (state c.crash_as.new.self).reads (in_range g here limits k begun) begun.lawful
    (was_served g here limits k begun) (sym c.returned.ensures ∙ c.in-None.is) (c.crash_as.ensures.image kept) in
    let stable = c.crash_as.ensures.left kept in
    record {
      next = lived.next;
      after = failures left.device;
      first = lived.life_is;
      rest = (
        record {
          model = c.crash_as.ensures.model.1 kept;
          lawful = lived.lawful;
          means = λ image is. subst (λ (s : Sectors). Means s (table_of limits lived.next))
              (stable.reads ∙ sym ((stable.images image).0 is)) lived.means;
        },
        sym c.crash_as.ensures.failures,
      );
    }

pub returns-in-None-clause-told : goal.returns-in-None-clause-told
returns-in-None-clause-told g c = λ model.
    let failures = g.D.Device.failures in
    let left = c.serve-left.result in
    let armed = c.limit.ensures.model.1 model in
    let kept = c.serve-left.ensures.model.1 armed in
    let crash = c.crash_as.ensures in
    let calls_left = g.D.Device.calls_left in
    let limited : left.report.opened ≡ None → IsSome c.args.life.now.calls = λ none.
    armed_unopened c.args.life.now.calls left.fault (sym c.returned.ensures ∙ c.in-None.is)
    (c.serve-left.ensures.unopened none) in
    record {
      left = left.device;
      on = gone_on-more _ _ _ (c.limit.ensures.on model) (c.serve-left.ensures.on armed);
      counted = c.serve-left.ensures.told;
      unopened = λ none. record {
        failed = subst (λ (n : ℕ). HasRisen n (failures left.device)) c.limit.ensures.failures
            (failed_unopened c.args.life.now.calls left.fault (failures c.limit.new.device) (failures left.device)
            (sym c.returned.ensures ∙ c.in-None.is) (c.serve-left.ensures.unopened none) c.serve-left.ensures.counts);
        unwritten = λ image is. c.limit.ensures.images model image (c.serve-left.ensures.unwritten armed none image is);
        armed = limited none;
        taken = subst (λ (image : Sectors). TakesAnOpening image c.args.life.now.calls (calls_left left.device))
            (c.limit.ensures.reads model)
            (subst (λ (n : Option ℕ). TakesAnOpening (g.D.Device.state c.limit.new.device).reads n (calls_left left.device))
            (c.limit.ensures.calls (limited none)) (c.serve-left.ensures.taken armed none));
      };
      stopped = record {
        stopped = crash.stops kept;
        fates = crash.stable kept ∙ ap (λ (fates : List _). left_by (g.D.CrashDevice.stable left.device) (g.D.CrashDevice.pending left.device) fates) c.deref-in-None.ensures.value;
        settled = crash.pending kept;
        unlimited = crash.calls_left;
        unfailed = crash.failures;
      };
    }
