use Rattle.std.proofs.Common.{◌≡◌, ◌++◌, drop}
use Rattle.night_report.specs.Report.{teams_text}
use Rattle.night_report.proofs.columns.push_teams.Given as goal

abbrev pub invariant-loop-at : goal.invariant-loop-at
invariant-loop-at l = l.out.items ++ teams_text (drop l.at l.teams) ≡ l.fn.out.items ++ teams_text l.teams
