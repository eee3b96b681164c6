use Rattle.std.proofs.Common.{◌≡◌, ◌++◌, map, drop}
use Rattle.night_report.specs.Report.{plain_byte}
use Rattle.night_report.proofs.columns.push_plain.Given as goal

abbrev pub invariant-loop-byte : goal.invariant-loop-byte
invariant-loop-byte l = l.out.items ++ map plain_byte (drop l.byte-index l.text) ≡ l.fn.out.items ++ map plain_byte l.text
