-- Each time one goes, and of those that are left the newest are the same.
use Rattle.std.proofs.Common.{◌≡◌, length}
use Rattle.lobby_talk.specs.Keeping.{newest}
use Rattle.lobby_talk.proofs.kept.let_go_beyond.Given as goal

abbrev pub invariant-loop-answers : goal.invariant-loop-answers
invariant-loop-answers l = newest l.most l.answers.items ≡ newest l.most l.fn.answers.items

abbrev pub decreases-loop-answers : goal.decreases-loop-answers
decreases-loop-answers l = length l.answers.items
