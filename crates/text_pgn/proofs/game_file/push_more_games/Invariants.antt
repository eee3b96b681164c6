use Rattle.std.proofs.Common.{◌≡◌, ◌++◌, drop, map, flat_map}
use Rattle.text_pgn.specs.Json.{behind_comma}
use Rattle.text_pgn.specs.Spectators.{entry_of}
use Rattle.text_pgn.proofs.game_file.push_more_games.Given as goal

abbrev pub invariant-loop-told : goal.invariant-loop-told
invariant-loop-told l =
    l.out.items ++ flat_map behind_comma (map (entry_of l.at) (drop l.told-index l.games))
    ≡ l.fn.out.items ++ flat_map behind_comma (map (entry_of l.at) l.games)
