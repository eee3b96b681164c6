use Rattle.std.proofs.Common.{◌≡◌, ◌++◌, drop}
use Rattle.night_rounds.specs.Results.{rows_text}
use Rattle.night_rounds.proofs.outcomes.push_outcomes.Given as goal

abbrev pub invariant-loop-outcome : goal.invariant-loop-outcome
invariant-loop-outcome l = l.rows.items ++ rows_text l.decisions (drop l.outcome-index l.outcomes) ≡ l.fn.rows.items ++ rows_text l.decisions l.outcomes
