use Rattle.std.proofs.Common.{◌≡◌, ◌++◌, length, take, codes, decimal}
use Rattle.std.specs.List.{flat_map}
use Rattle.std.specs.String.{string_bytes}
use Rattle.lobby_words.specs.Players.{row_of}
use Rattle.lobby_words.proofs.rows.player_rows.Given as goal

abbrev pub invariant-loop-player : goal.invariant-loop-player
invariant-loop-player l =
    string_bytes l.text ≡ (codes "ok players " ++ decimal (length l.players) ++ codes "\n") ++ flat_map row_of (take l.player-index l.players)
