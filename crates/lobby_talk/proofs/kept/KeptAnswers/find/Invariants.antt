-- None of those so far is of this text.
use Rattle.std.proofs.Common.{take}
use Rattle.lobby_talk.specs.Keeping.{HasNone}
use Rattle.lobby_talk.proofs.kept.KeptAnswers.find.Given as goal

abbrev pub invariant-loop-one : goal.invariant-loop-one
invariant-loop-one l = HasNone (take l.one-index l.one-items) l.pgn
