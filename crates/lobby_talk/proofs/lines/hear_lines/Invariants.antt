-- The lines so far are told.
use Rattle.std.proofs.Common.{◌-◌, ◌≤◌, length, drop}
use Rattle.lobby_talk.specs.Lines.{AreTaken}
use Rattle.lobby_talk.proofs.lines.hear_lines.Given as goal

abbrev pub invariant-loop-at : goal.invariant-loop-at
invariant-loop-at l = (l.from ≤ length l.held) × AreTaken l.held (drop l.from l.held) l.fn.talk l.talk

abbrev pub decreases-loop-at : goal.decreases-loop-at
decreases-loop-at l = length l.initial.held - l.from
