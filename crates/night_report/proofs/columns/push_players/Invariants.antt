use Rattle.std.proofs.Common.{◌≡◌, ◌++◌, ◌+◌, map, drop}
use Rattle.night_report.specs.Report.{players_text}
use Rattle.night_report.proofs.columns.push_players.Given as goal

abbrev pub invariant-loop-at : goal.invariant-loop-at
invariant-loop-at l =
    l.out.items ++ players_text (map (λ round. round.items) l.rounds) l.places l.at (drop l.at l.players)
    ≡ l.fn.out.items ++ players_text (map (λ round. round.items) l.rounds) l.places 0 l.players
