use Rattle.std.proofs.Common.{◌≡◌, take}
use Rattle.std.specs.Prelude.{find, option_map}
use Rattle.lobby_words.specs.Players.{identity_of, has_sum}
use Rattle.lobby_words.proofs.players.holder_of_sum.Given as goal

abbrev pub invariant-loop-player : goal.invariant-loop-player
invariant-loop-player l = l.holder ≡ option_map identity_of (find (has_sum l.sum) (take l.player-index l.players))
