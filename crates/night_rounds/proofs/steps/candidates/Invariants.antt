use Rattle.std.proofs.Common.{◌≡◌, ◌++◌, drop}
use Rattle.night_rounds.specs.Steps.{candidates_in}
use Rattle.night_rounds.proofs.steps.candidates.Given as goal

abbrev pub invariant-loop-row : goal.invariant-loop-row
invariant-loop-row l =
    l.games.items ++ candidates_in l.older l.white (drop l.row-index l.rows) ≡ candidates_in l.older l.white l.rows
