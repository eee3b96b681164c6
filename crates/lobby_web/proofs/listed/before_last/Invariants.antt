-- What stands behind the rest has no comma.
use Rattle.std.proofs.Common.{◌≡◌, ◌≤◌, length, reverse}
use Rattle.lobby_web.specs.Requests.{from_comma}
use Rattle.lobby_web.proofs.listed.before_last.Given as goal

abbrev pub invariant-loop-text : goal.invariant-loop-text
invariant-loop-text l =
    (from_comma (reverse l.text) ≡ from_comma (reverse l.fn.text)) × (length l.text ≤ length l.fn.text)

abbrev pub decreases-loop-text : goal.decreases-loop-text
decreases-loop-text l = length l.text
