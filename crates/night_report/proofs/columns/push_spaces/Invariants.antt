use Rattle.std.proofs.Common.{◌≡◌, ◌++◌, ◌-◌, replicate}
use Rattle.night_report.proofs.columns.push_spaces.Given as goal

abbrev pub invariant-loop-at : goal.invariant-loop-at
invariant-loop-at l = l.out.items ++ replicate (l.count - l.at) 32 ≡ l.fn.out.items ++ replicate l.count 32
