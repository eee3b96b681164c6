use Rattle.std.proofs.Common.{◌≡◌, ◌+◌, map, drop}
use Rattle.night_games.specs.Roster.{bad_column}
use Rattle.night_games.proofs.roster.bad_column.Given as goal

abbrev pub invariant-loop-at : goal.invariant-loop-at
invariant-loop-at l =
    bad_column (l.at + 1) (map (λ column. column.now) (drop l.at l.columns))
    ≡ bad_column 1 (map (λ column. column.now) l.columns)
