use Rattle.std.proofs.Common.{◌≡◌, ◌+◌, map, drop}
use Rattle.csv.specs.Records.{fields_of}
use Rattle.night_games.specs.Roster.{fault_below}
use Rattle.night_games.proofs.roster.fault_below.Given as goal

abbrev pub invariant-loop-at : goal.invariant-loop-at
invariant-loop-at l =
    fault_below (map (λ column. column.now) l.columns) (l.at + 2) (map fields_of (drop l.at l.rows))
    ≡ fault_below (map (λ column. column.now) l.columns) 2 (map fields_of l.rows)
