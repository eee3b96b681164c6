use Rattle.std.proofs.Common.{◌≡◌, ◌≤◌}
use Rattle.night_standings.specs.Places as spec
use Rattle.night_standings.proofs.direct.missing.Given as goal

abbrev pub invariant-loop-at : goal.invariant-loop-at
invariant-loop-at l =
    record {
      so_far : l.missing ≡ spec.missing l.number l.cells l.places l.place l.at;
      few : l.missing ≤ l.at;
    }
