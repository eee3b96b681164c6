use Rattle.std.proofs.Common.{◌≡◌, ◌++◌, map, drop}
use Rattle.night_standings.specs.Places as spec
use Rattle.night_standings.proofs.places.standings_of.Given as goal

abbrev pub invariant-loop-criterion : goal.invariant-loop-criterion
invariant-loop-criterion l =
    record {
      places : spec.places_behind l.system (drop l.criterion-index l.criteria) (map (λ round. round.items) l.seen.items) l.scores.items l.boards l.count l.places.items
          ≡ spec.places_behind l.system l.criteria (map (λ round. round.items) l.seen.items) l.scores.items l.boards l.count
          (spec.places_by_points (map (λ round. round.items) l.rounds) l.count);
      columns : map (λ column. column.items) l.columns.items
          ++ spec.columns_behind l.system (drop l.criterion-index l.criteria) (map (λ round. round.items) l.seen.items) l.scores.items l.boards l.count l.places.items
          ≡ spec.columns_behind l.system l.criteria (map (λ round. round.items) l.seen.items) l.scores.items l.boards l.count
          (spec.places_by_points (map (λ round. round.items) l.rounds) l.count);
    }
