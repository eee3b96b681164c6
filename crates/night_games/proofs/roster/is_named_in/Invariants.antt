use Rattle.std.proofs.Common.{◌≡◌, map, drop}
use Rattle.csv.specs.Records.{fields_of}
use Rattle.night_games.specs.Roster.{is_named_in}
use Rattle.night_games.proofs.roster.is_named_in.Given as goal

abbrev pub invariant-loop-other : goal.invariant-loop-other
invariant-loop-other l =
    is_named_in (map (λ column. column.now) l.columns) (fields_of l.row) (map fields_of (drop l.other-index l.rows))
    ≡ is_named_in (map (λ column. column.now) l.columns) (fields_of l.row) (map fields_of l.rows)
