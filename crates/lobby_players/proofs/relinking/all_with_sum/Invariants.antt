use Rattle.std.proofs.Common.{take}
use Rattle.lobby_players.proofs.NewLink.{AreWithSum}
use Rattle.lobby_players.proofs.relinking.all_with_sum.Given as goal

abbrev pub invariant-loop-player : goal.invariant-loop-player
invariant-loop-player l = AreWithSum l.name l.sum (take l.player-index l.players) l.after.items
