use Rattle.std.proofs.Common.{[], sym, subst, ℕ, ◌+◌, take}
use Rattle.sector_dev.specs.Memory.{IsSettledAt}
use Rattle.sector_dev.specs.declared.memory.Call.TheVariants.{Written}
use Rattle.sector_dev.proofs.Settled.{more_settled_written, more_settled_synced}
use Rattle.sector_dev.proofs.memory.settled.Goals as goal
use Rattle.sector_dev.proofs.memory.settled.Goals.{in-Synced, in_default}

pub loop-at-preserved : goal.loop-at-preserved
loop-at-preserved c =
    let calls = c.args.calls.now in
    let i = c.loop-at.at in
    elim c.match-call.branch [
      | in-Synced w ↦ subst (λ (n : ℕ). IsSettledAt (take (i + 1) calls) n) (sym w.settled-is)
          (more_settled_synced calls i (Written 0 []) c.loop-at-test.true w.in-Synced.is)
      | in_default w ↦ subst (λ (n : ℕ). IsSettledAt (take (i + 1) calls) n) (sym w.settled-is)
          (more_settled_written calls i c.loop-at.settled w.in_default.field-0 w.in_default.field-1
          (Written 0 []) c.loop-at-test.true w.in_default.is c.loop-at.invariant)
    ]
