use Rattle.std.proofs.Common.{◌≡◌, take}
use Rattle.lobby_table.specs.Watching.{games_of}
use Rattle.lobby_table.proofs.watching.games_of.Given as goal

abbrev pub invariant-loop-watch : goal.invariant-loop-watch
invariant-loop-watch l = l.games.items ≡ games_of (take l.watch-index l.watches)
