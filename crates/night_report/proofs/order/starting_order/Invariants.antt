use Rattle.std.proofs.Common.{◌≡◌, drop, []}
use Rattle.night_report.specs.Order.{in_order}
use Rattle.night_report.proofs.order.starting_order.Given as goal

abbrev pub invariant-loop-player : goal.invariant-loop-player
invariant-loop-player l = in_order l.ordered.items (drop l.player-index l.players) ≡ in_order [] l.players
