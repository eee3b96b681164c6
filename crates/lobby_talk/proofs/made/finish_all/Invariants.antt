-- Those so far are made, and the others are as they were.
use Rattle.lobby_talk.specs.Keeping.{IsMadeOf}
use Rattle.lobby_talk.proofs.Each.{IsZippedTo}
use Rattle.lobby_talk.proofs.made.finish_all.Given as goal

abbrev pub invariant-loop-one : goal.invariant-loop-one
invariant-loop-one l = IsZippedTo (IsMadeOf l.kept.answers.items) l.one-index l.fn.told.items l.one-items
