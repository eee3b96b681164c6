use Rattle.std.proofs.Common.{◌∙◌, ap, subst, inl, inr}
use Rattle.std.specs.Prelude.{slice_set}
use Rattle.sector_dev.specs.declared.device.Sector.TheVariants.{Bytes}
use Rattle.sector_dev.specs.Image.{Sectors}
use Rattle.sector_dev.specs.Device.{IsStable}
use Rattle.sector_dev.specs.Runs.{IsAtRest, LeavesOnly}
use Rattle.sector_dev.proofs.Runs.{failed_counted, failed_later}
use Rattle.test_disk.specs.Changes.{OldOrEither}
use Rattle.test_disk.proofs.ChangeLemmas.{first_alone, during_first, during_second, during_second_sync}
use Rattle.test_disk.proofs.ChangeLemmas.{after_failed_first, after_failed_second, after_second}
use Rattle.test_disk.proofs.device_callers.write_two.Given.{Over}
use Rattle.test_disk.proofs.device_callers.write_two.Goals.{After-sync}
use Rattle.test_disk.proofs.device_callers.write_two.Goals as goal

pub returns-in_err-write-clause-any_moment : goal.returns-in_err-write-clause-any_moment
returns-in_err-write-clause-any_moment g c =
    λ at_rest.
    let d = c.args.device.now in
    let old = g.D.Device.state d in
    let P = OldOrEither old.reads c.args.at c.args.from.now c.args.also_at c.args.also.now in
    during_first old (g.D.Device.sector_count d) (g.met.D.Device.coherent d) at_rest c.args.at c.args.from.now
    (g.D.Device.state c.write.new.self) P
    (λ f one. first_alone old.reads c.args.at c.args.from.now c.args.also_at c.args.also.now f one) (c.write.ensures.time at_rest.0)

pub returns-in_err-write-2-clause-any_moment : goal.returns-in_err-write-2-clause-any_moment
returns-in_err-write-2-clause-any_moment g c =
    λ at_rest.
    let d = c.args.device.now in
    let model = c.write.ensures.model.1 at_rest.0 in
    during_second (g.D.Device.state d) (g.D.Device.sector_count d) (g.met.D.Device.coherent d) at_rest
    c.args.at c.args.from.now c.args.also_at c.args.also.now
    (g.D.Device.state c.write.new.self) (g.D.Device.state c.write-2.new.self)
    (c.write.ensures.time at_rest.0) (c.in_ok-write.ensures.ok at_rest.0) (c.write-2.ensures.time model)

pub returns-in_err-write-2-clause-now : goal.returns-in_err-write-2-clause-now
returns-in_err-write-2-clause-now g c =
    λ at_rest.
    let d = c.args.device.now in
    let model = c.write.ensures.model.1 at_rest.0 in
    after_failed_second (g.D.Device.state d) (g.D.Device.sector_count d) (g.met.D.Device.coherent d) at_rest
    c.args.at c.args.from.now c.args.also_at c.args.also.now
    (g.D.Device.state c.write.new.self) (g.D.Device.state c.write-2.new.self)
    (c.in_ok-write.ensures.ok at_rest.0) (c.in_err-write-2.ensures.err model)

-- whatever the sync answers
over_sync : (g : Over) (c : After-sync g) → IsAtRest (g.D.Device.state c.args.device.now)
    → LeavesOnly (g.D.Device.state c.args.device.now) (g.D.Device.state c.sync.new.self)
    (OldOrEither (g.D.Device.state c.args.device.now).reads c.args.at c.args.from.now c.args.also_at c.args.also.now)
over_sync g c at_rest =
    let d = c.args.device.now in
    let model = c.write.ensures.model.1 at_rest.0 in
    during_second_sync (g.D.Device.state d) (g.D.Device.sector_count d) (g.met.D.Device.coherent d) at_rest
    c.args.at c.args.from.now c.args.also_at c.args.also.now
    (g.D.Device.state c.write.new.self) (g.D.Device.state c.write-2.new.self) (g.D.Device.state c.sync.new.self)
    (c.write.ensures.time at_rest.0) (c.in_ok-write.ensures.ok at_rest.0)
    (c.write-2.ensures.time model) (c.in_ok-write-2.ensures.ok model)
    (c.sync.ensures.time (c.write-2.ensures.model.1 model))

pub returns-in_err-sync-clause-any_moment : goal.returns-in_err-sync-clause-any_moment
returns-in_err-sync-clause-any_moment g c = over_sync g (goal.at.returns-in_err-sync-clause-any_moment g c).After-sync

pub returns-clause-any_moment : goal.returns-clause-any_moment
returns-clause-any_moment g c = over_sync g (goal.at.returns-clause-any_moment g c).After-sync

pub returns-clause-changed : goal.returns-clause-changed
returns-clause-changed g c =
    λ at_rest.
    let model = c.write.ensures.model.1 at_rest.0 in
    let pending = c.in_ok-write.ensures.ok at_rest.0 in
    let pending_2 = c.in_ok-write-2.ensures.ok model in
    let stable = c.in_ok-sync.ensures.ok (c.write-2.ensures.model.1 model) in
    subst (λ (s : Sectors). IsStable s (g.D.Device.state c.sync.new.self))
    (pending_2.reads ∙ ap (λ (s : Sectors). slice_set s c.args.also_at (Bytes c.args.also.now)) pending.reads) stable

pub returns-in_err-write-clause-now : goal.returns-in_err-write-clause-now
returns-in_err-write-clause-now g c = λ at_rest image now.
    let d = c.args.device.now in
    let old = g.D.Device.state d in
    first_alone old.reads c.args.at c.args.from.now c.args.also_at c.args.also.now image
    (after_failed_first old (g.D.Device.sector_count d) (g.met.D.Device.coherent d) at_rest c.args.at c.args.from.now
    (g.D.Device.state c.write.new.self) (c.in_err-write.ensures.err at_rest.0) image now)

pub returns-in_err-sync-clause-now : goal.returns-in_err-sync-clause-now
returns-in_err-sync-clause-now g c = λ at_rest image now.
    let d = c.args.device.now in
    let model = c.write.ensures.model.1 at_rest.0 in
    let failed = c.in_err-sync.ensures.err (c.write-2.ensures.model.1 model) in
    after_second (g.D.Device.state d) (g.D.Device.sector_count d) (g.met.D.Device.coherent d) at_rest
    c.args.at c.args.from.now c.args.also_at c.args.also.now
    (g.D.Device.state c.write.new.self) (g.D.Device.state c.write-2.new.self)
    (c.in_ok-write.ensures.ok at_rest.0) (c.in_ok-write-2.ensures.ok model) image (failed.images image now)

pub returns-clause-now : goal.returns-clause-now
returns-clause-now g c = λ at_rest image now.
    let model = c.write.ensures.model.1 at_rest.0 in
    let pending = c.in_ok-write.ensures.ok at_rest.0 in
    let pending_2 = c.in_ok-write-2.ensures.ok model in
    let stable = c.in_ok-sync.ensures.ok (c.write-2.ensures.model.1 model) in
    let written = (stable.images image).0 now ∙ pending_2.reads in
    ((g.D.Device.state c.write.new.self).reads, inr (inl pending.reads), inr (inl written))

-- what failed has counted it

pub returns-in_err-write-clause-cause : goal.returns-in_err-write-clause-cause
returns-in_err-write-clause-cause g c =
    failed_counted c.from_residual.result (g.D.Device.failures c.args.device.now) (g.D.Device.failures c.write.new.self)
    c.from_residual.ensures.0 c.in_err-write.ensures.cause

pub returns-in_err-write-2-clause-cause : goal.returns-in_err-write-2-clause-cause
returns-in_err-write-2-clause-cause g c =
    failed_later c.from_residual-in_err-write-2.result (g.D.Device.failures c.args.device.now)
    (g.D.Device.failures c.write.new.self) (g.D.Device.failures c.write-2.new.self)
    c.from_residual-in_err-write-2.ensures.0 c.in_ok-write.ensures.cause c.in_err-write-2.ensures.cause

pub returns-in_err-sync-clause-cause : goal.returns-in_err-sync-clause-cause
returns-in_err-sync-clause-cause g c =
    failed_later c.from_residual-in_err-sync.result (g.D.Device.failures c.args.device.now)
    (g.D.Device.failures c.write-2.new.self) (g.D.Device.failures c.sync.new.self)
    c.from_residual-in_err-sync.ensures.0 (c.in_ok-write-2.ensures.cause ∙ c.in_ok-write.ensures.cause)
    c.in_err-sync.ensures.cause
