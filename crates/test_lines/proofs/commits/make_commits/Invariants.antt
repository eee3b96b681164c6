use Rattle.std.proofs.Common.{◌≡◌, ◌+◌}
use Rattle.test_lines.proofs.commits.make_commits.Given as goal

abbrev pub invariant-loop : goal.invariant-loop
invariant-loop g l = l.journal.header.seq ≡ l.initial.journal.header.seq + l.counter
