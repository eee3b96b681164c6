use Rattle.std.proofs.Common.{◌≡◌, ◌++◌, map, drop}
use Rattle.csv.specs.Records.{fields_of}
use Rattle.night_games.proofs.roster.texts_of_row.Given as goal

abbrev pub invariant-loop-at : goal.invariant-loop-at
invariant-loop-at l = map (λ text. text.now) l.texts.items ++ drop l.at (fields_of l.row) ≡ fields_of l.row
