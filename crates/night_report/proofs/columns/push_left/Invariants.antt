use Rattle.std.proofs.Common.{◌≡◌, ◌++◌, map, drop}
use Rattle.night_report.specs.Report.{at_left, plain_byte}
use Rattle.night_report.proofs.columns.push_left.Given as goal

abbrev pub invariant-loop-byte : goal.invariant-loop-byte
invariant-loop-byte l =
    l.out.items ++ at_left l.room (map plain_byte (drop l.byte-index l.text))
    ≡ l.fn.out.items ++ at_left l.width (map plain_byte l.text)
