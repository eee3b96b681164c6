-- Armed the device is at rest as before; what `write_two` leaves of it then, the crash picks from.
use Rattle.std.proofs.Common.{◌≡◌, ◌∙◌, ℕ, subst, sym}
use Rattle.std.specs.Prelude.{Result, Ok, Err, OnOk, slice_set}
use Rattle.sector_dev.specs.declared.device.Sector.TheVariants.{Bytes}
use Rattle.sector_dev.specs.Image.{Sectors}
use Rattle.sector_dev.specs.Device.{State, CountsFailure, IsStable}
use Rattle.sector_dev.specs.Runs.{IsAtRest}
use Rattle.test_disk.specs.Changes.{OldOrEither}
use Rattle.test_disk.proofs.ChangeLemmas.{unchanged_at_rest, stable_at_rest}
use Rattle.test_disk.proofs.device_callers.write_two_and_crash.Goals as goal

-- the counts before and after a call, by others that are the same
counted : {T E : Type 0} (r : Result T E) (old armed late new : ℕ) → armed ≡ old → new ≡ late
    → CountsFailure r armed late → CountsFailure r old new
counted r old armed late new is_old is_late cause =
    subst (λ (n : ℕ). CountsFailure r old n) (sym is_late) (subst (λ (n : ℕ). CountsFailure r n late) is_old cause)

-- an image of a device whose sectors are stable
left_of_stable : {T E : Type 0} (r : Result T E) (sectors old c : Sectors) (change : Sectors → Sectors) (late : State)
    → sectors ≡ old → late.image c → OnOk r (IsStable (change sectors) late) → OnOk r (c ≡ change old)
left_of_stable (Ok x) sectors old c change late same now stable =
    subst (λ (s : Sectors). c ≡ change s) same ((stable.images c).0 now)
left_of_stable (Err e) sectors old c change late same now stable = tt

pub returns : goal.returns
returns g c =
    let state = g.D.Device.state in
    let failures = g.D.Device.failures in
    let old = c.args.device.now in
    let armed = c.arm.new.self in
    let late = c.write_two-written.new.device in
    let new = c.crash_as.new.self in
    let arm = c.arm.ensures in
    let written = c.write_two-written.ensures in
    let crash = c.crash_as.ensures in
    let at = c.args.at in
    let from = c.args.from.now in
    let also_at = c.args.also_at in
    let also = c.args.also.now in
    let rests = λ (at_rest : IsAtRest (state old)).
    unchanged_at_rest (state old) (state armed) (arm.model.1 at_rest.0) (arm.unchanged at_rest.0) at_rest in
    let late_model = λ (at_rest : IsAtRest (state old)). written.model.1 (arm.model.1 at_rest.0) in
    record {
      sectors = crash.sectors ∙ (written.sectors ∙ arm.sectors);
      model = (
        λ model. arm.model.0 (written.model.0 (crash.model.0 model)),
        λ model. crash.model.1 (written.model.1 (arm.model.1 model)),
      );
      cause = counted c.write_two-written.result (failures old) (failures armed) (failures late) (failures new)
          arm.failures crash.failures written.cause;
      calls_left = crash.calls_left;
      at_rest = λ at_rest. let model = late_model at_rest in
          stable_at_rest _ (state new) (crash.model.1 model) (crash.left model);
      left = λ at_rest.
          subst (λ (s : Sectors). OldOrEither s at from also_at also (state new).reads) (arm.unchanged at_rest.0).reads
          (written.now (rests at_rest) (state new).reads (crash.image (late_model at_rest)));
      changed = λ at_rest.
          left_of_stable c.write_two-written.result (state armed).reads (state old).reads (state new).reads
          (λ s. slice_set (slice_set s at (Bytes from)) also_at (Bytes also)) (state late)
          (arm.unchanged at_rest.0).reads (crash.image (late_model at_rest)) (written.changed (rests at_rest));
    }
