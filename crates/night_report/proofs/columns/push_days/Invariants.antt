use Rattle.std.proofs.Common.{◌≡◌, ◌++◌, map, drop}
use Rattle.night_report.specs.Report.{days_text}
use Rattle.night_report.proofs.columns.push_days.Given as goal

abbrev pub invariant-loop-day : goal.invariant-loop-day
invariant-loop-day l =
    l.out.items ++ days_text (map (λ day. day.now) (drop l.day-index l.days))
    ≡ l.fn.out.items ++ days_text (map (λ day. day.now) l.days)
