use Rattle.std.proofs.Common.{◌≡◌, ◌++◌, drop}
use Rattle.night_report.specs.Report.{members_text}
use Rattle.night_report.proofs.columns.push_members.Given as goal

abbrev pub invariant-loop-number : goal.invariant-loop-number
invariant-loop-number l = l.out.items ++ members_text (drop l.number-index l.numbers) ≡ l.fn.out.items ++ members_text l.numbers
