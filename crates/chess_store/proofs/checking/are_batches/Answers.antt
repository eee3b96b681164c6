use Rattle.std.proofs.Common.{◌≡◌, List, true, sym, subst}
use Rattle.chess_entry.specs.declared.commands.Command.{Command}
use Rattle.chess_store.specs.Courses.{IsSubmittable}
use Rattle.chess_store.proofs.ServingLemmas.{EachOf-at}
use Rattle.chess_store.proofs.checking.are_batches.Goals as goal

pub returns-then-not-may : goal.returns-then-not-may
returns-then-not-may c = (
  λ no. absurd (cc),
  λ each.
      let batch = EachOf-at IsSubmittable (λ b. b.items) c.args.batches.now c.loop-batch.batch-index c.batch-item.result each
      c.loop-batch-test.true c.batch-item.is in
      let may : c.is_submittable-may.result ≡ true = c.is_submittable-may.ensures.1
      (subst (λ (commands : List Command). IsSubmittable commands) (sym c.deref.ensures.value) batch) in
      cc,
)
