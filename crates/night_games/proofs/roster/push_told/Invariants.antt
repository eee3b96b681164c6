use Rattle.std.proofs.Common.{◌≡◌, ◌++◌, map, drop}
use Rattle.csv.specs.Records.{fields_of}
use Rattle.night_games.specs.Particulars.{texts_of, texts_in}
use Rattle.night_games.proofs.roster.push_told.Given as goal

abbrev pub invariant-loop-row : goal.invariant-loop-row
invariant-loop-row l =
    map texts_of l.all.items ++ map (texts_in (map (λ column. column.now) l.columns)) (map fields_of (drop l.row-index l.rows))
    ≡ map texts_of l.fn.all.items ++ map (texts_in (map (λ column. column.now) l.columns)) (map fields_of l.rows)
