use Rattle.std.proofs.Common.{subst, List}
use Rattle.std.proofs.lemmas.Result.{IfOk-weaker}
use Rattle.chess_store.specs.declared.plan.Life.{Life}
use Rattle.chess_store.specs.Drill.{IsLivedInMemory, IsCase, drill_limits}
use Rattle.chess_store.proofs.DrillLemmas.{drill_submittable}
use Rattle.chess_store.proofs.drilling.live.Goals as goal

pub lives_in_memory-requires-clause-batches : goal.lives_in_memory-requires-clause-batches
lives_in_memory-requires-clause-batches c =
    let one = c.in_ok-plan.ensures in
    drill_submittable c.args.case c.in_ok-plan.plan.lives.items one.life one.alone one.is_life

pub returns : goal.returns
returns c =
    let one = c.in_ok-plan.ensures in
    IfOk-weaker c.lives_in_memory.result (λ lived. IsLivedInMemory drill_limits c.in_ok-plan.plan.lives.items lived)
    (IsCase c.args.case)
    (λ lived is. record {
      life = one.life;
      is_life = one.is_life;
      is_lived = subst (λ (lives : List Life). IsLivedInMemory drill_limits lives lived) one.alone is;
    })
    c.lives_in_memory.ensures
