use Rattle.std.proofs.Common.{◌≡◌, ◌+◌, drop}
use Rattle.night_report.specs.Order.{place_of}
use Rattle.night_report.proofs.order.place_of.Given as goal

abbrev pub invariant-loop-at : goal.invariant-loop-at
invariant-loop-at l = l.at + place_of l.player (drop l.at l.before) ≡ place_of l.player l.before
