use Rattle.std.proofs.Common.{◌≡◌, ◌++◌, not, take, filter}
use Rattle.lobby_table.specs.Watching.{watched}
use Rattle.lobby_table.proofs.Watched.{watching}
use Rattle.lobby_table.proofs.watching.followers.Given as goal

abbrev pub invariant-loop-watch : goal.invariant-loop-watch
invariant-loop-watch l = l.to.items ≡ watching l.game (take l.watch-index l.watches)

abbrev pub invariant-loop-one : goal.invariant-loop-one
invariant-loop-one l =
    l.to.items ≡ watching l.game l.watches ++ filter (λ c. not (watched l.watches c l.game)) (take l.one-index l.table)
