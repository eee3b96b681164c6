use Rattle.std.proofs.Common.{◌≡◌, ◌+◌, map, drop}
use Rattle.night_games.specs.Particulars.{place_of}
use Rattle.night_games.proofs.particulars.place_of.Given as goal

abbrev pub invariant-loop-at : goal.invariant-loop-at
invariant-loop-at l =
    l.at + place_of l.word (map (λ column. column.now) (drop l.at l.columns))
    ≡ place_of l.word (map (λ column. column.now) l.columns)
