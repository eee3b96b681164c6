use Rattle.std.proofs.Common.{◌+◌, ◌≤◌, length, vec_len, vec_capacity}
use Rattle.text_lines.proofs.Wholes.{HasTaken}
use Rattle.text_lines.proofs.heard.take_piece.Given as goal

abbrev pub invariant-loop-part : goal.invariant-loop-part
invariant-loop-part l =
    HasTaken l.fn.whole.items l.fn.rest.items l.piece l.whole.items l.rest.items l.more
    × (vec_len l.whole + (length l.rest.items + length l.more) ≤ vec_capacity l.whole)

abbrev pub decreases-loop-part : goal.decreases-loop-part
decreases-loop-part l = length l.more
