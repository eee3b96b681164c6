use Rattle.std.proofs.Common.{subst}
use Rattle.sector_dev.specs.Image.{Sectors}
use Rattle.sector_dev.specs.Device.{IsStable}
use Rattle.sector_dev.specs.Device.{OldOrChanged}
use Rattle.sector_dev.specs.Runs.{IsAtRest, LeavesOnly}
use Rattle.test_disk.proofs.ChangeLemmas.{during_first, during_first_sync}
use Rattle.test_disk.proofs.device_callers.write_one.Given.{Over}
use Rattle.test_disk.proofs.device_callers.write_one.Goals.{After-sync}
use Rattle.test_disk.proofs.device_callers.write_one.Goals as goal

pub returns-in_err-write-clause-any_moment : goal.returns-in_err-write-clause-any_moment
returns-in_err-write-clause-any_moment g c =
    λ at_rest.
    let d = c.args.device.now in
    let old = g.D.Device.state d in
    during_first old (g.D.Device.sector_count d) (g.met.D.Device.coherent d) at_rest c.args.at c.args.value.now
    (g.D.Device.state c.write.new.self) (OldOrChanged old.reads c.args.at c.args.value.now) (λ f one. one)
    (c.write.ensures.time at_rest.0)

-- whatever the sync answers
over_sync : (g : Over) (c : After-sync g) → IsAtRest (g.D.Device.state c.args.device.now)
    → LeavesOnly (g.D.Device.state c.args.device.now) (g.D.Device.state c.sync.new.self)
    (OldOrChanged (g.D.Device.state c.args.device.now).reads c.args.at c.args.value.now)
over_sync g c at_rest =
    let d = c.args.device.now in
    let model = c.write.ensures.model.1 at_rest.0 in
    during_first_sync (g.D.Device.state d) (g.D.Device.sector_count d) (g.met.D.Device.coherent d) at_rest
    c.args.at c.args.value.now (g.D.Device.state c.write.new.self) (g.D.Device.state c.sync.new.self)
    (c.write.ensures.time at_rest.0) (c.in_ok-write.ensures.ok at_rest.0) (c.sync.ensures.time model)

pub returns-in_err-sync-clause-any_moment : goal.returns-in_err-sync-clause-any_moment
returns-in_err-sync-clause-any_moment g c = over_sync g (goal.at.returns-in_err-sync-clause-any_moment g c).After-sync

pub returns-clause-any_moment : goal.returns-clause-any_moment
returns-clause-any_moment g c = over_sync g (goal.at.returns-clause-any_moment g c).After-sync

pub returns-clause-changed : goal.returns-clause-changed
returns-clause-changed g c =
    λ at_rest.
    let pending = c.in_ok-write.ensures.ok at_rest.0 in
    let stable = c.in_ok-sync.ensures.ok (c.write.ensures.model.1 at_rest.0) in
    subst (λ (s : Sectors). IsStable s (g.D.Device.state c.sync.new.self)) pending.reads stable
