use Rattle.std.proofs.Common.{take}
use Rattle.chess_store.specs.Lives.{AreSubmittable}
use Rattle.chess_store.proofs.plan.Plan.is_submittable.Given as goal

abbrev pub invariant-loop-life : goal.invariant-loop-life
invariant-loop-life l = AreSubmittable (take l.life-index l.life-items)
