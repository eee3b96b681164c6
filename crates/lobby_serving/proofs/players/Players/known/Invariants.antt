-- Those so far are known so, and the others are as they were.
use Rattle.std.proofs.Common.{◌≡◌, ◌++◌, map, take, drop}
use Rattle.lobby_serving.specs.Knowing.{known_as}
use Rattle.lobby_serving.proofs.players.Players.known.Given as goal

abbrev pub invariant-loop-player : goal.invariant-loop-player
invariant-loop-player g l =
    map (known_as l.self.has_log) l.fn.players.items
    ≡ take l.player-index l.player-items ++ map (known_as l.self.has_log) (drop l.player-index l.player-items)
