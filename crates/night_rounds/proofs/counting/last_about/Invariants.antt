use Rattle.std.proofs.Common.{◌≡◌, drop, None}
use Rattle.std.specs.Option.{option_copied}
use Rattle.night_rounds.specs.Counting.{last_from}
use Rattle.night_rounds.proofs.counting.last_about.Given as goal

abbrev pub invariant-loop-decision : goal.invariant-loop-decision
invariant-loop-decision l = last_from l.board (drop l.decision-index l.decisions) (option_copied l.found) ≡ last_from l.board l.decisions None
