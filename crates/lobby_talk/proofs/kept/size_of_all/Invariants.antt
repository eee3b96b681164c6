use Rattle.std.proofs.Common.{◌≡◌, take}
use Rattle.lobby_talk.specs.Keeping.{size_of_all, shown}
use Rattle.lobby_talk.proofs.kept.size_of_all.Given as goal

abbrev pub invariant-loop-one : goal.invariant-loop-one
invariant-loop-one l = l.size ≡ shown (size_of_all (take l.one-index l.answers))
