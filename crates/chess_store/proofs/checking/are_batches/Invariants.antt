use Rattle.std.proofs.Common.{map, take}
use Rattle.chess_board.specs.Legal.{EachOf}
use Rattle.chess_store.specs.Courses.{IsSubmittable}
use Rattle.chess_store.proofs.checking.are_batches.Given as goal

abbrev pub invariant-loop-batch : goal.invariant-loop-batch
invariant-loop-batch l = EachOf IsSubmittable (map (λ b. b.items) (take l.batch-index l.batches))
