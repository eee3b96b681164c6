use Rattle.std.proofs.Common.{◌≡◌, take}
use Rattle.std.specs.List.{list_all, zip}
use Rattle.lobby_players.proofs.Same.{same_pair}
use Rattle.lobby_players.proofs.relinking.are_same_players.Given as goal

abbrev pub invariant-loop-i : goal.invariant-loop-i
invariant-loop-i l = l.same ≡ list_all same_pair (zip (take l.i l.some) (take l.i l.others))
