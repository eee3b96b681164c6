use Rattle.std.proofs.Common.{◌≡◌, ◌++◌, map, drop, length}
use Rattle.night_standings.specs.Breaks as spec
use Rattle.night_standings.proofs.breaks.rounds_in.Given as goal

abbrev pub invariant-loop-at : goal.invariant-loop-at
invariant-loop-at l = record {
  so_far : map (λ round. round.items) l.seen.items ++ spec.rounds_in l.system (map (λ round. round.items) (drop l.at l.rounds))
      ≡ spec.rounds_in l.system (map (λ round. round.items) l.rounds);
  all : length l.seen.items ≡ l.at;
}
