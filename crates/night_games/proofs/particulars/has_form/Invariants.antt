use Rattle.std.proofs.Common.{◌≡◌, drop}
use Rattle.night_games.specs.Particulars.{are_as}
use Rattle.night_games.proofs.particulars.has_form.Given as goal

abbrev pub invariant-loop-at : goal.invariant-loop-at
invariant-loop-at l = are_as (drop l.at l.text) (drop l.at l.form) ≡ are_as l.text l.form
