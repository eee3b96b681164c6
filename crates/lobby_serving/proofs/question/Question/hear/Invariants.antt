-- Nothing more is said.
use Rattle.std.proofs.Common.{◌≡◌}
use Rattle.lobby_serving.proofs.question.Question.hear.Given as goal

abbrev pub invariant-loop : goal.invariant-loop
invariant-loop g l = l.self.left ≡ l.fn.self.left
