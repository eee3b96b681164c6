use Rattle.std.proofs.Common.{◌≡◌, ◌++◌, drop, map, flat_map}
use Rattle.text_pgn.specs.Json.{behind_comma}
use Rattle.text_pgn.specs.Spectators.{moves_from}
use Rattle.text_pgn.proofs.game_file.push_more_moves.Given as goal

abbrev pub invariant-loop-row : goal.invariant-loop-row
invariant-loop-row l =
    l.out.items ++ flat_map behind_comma (moves_from (map (λ row. row.now) (drop l.row-index l.rows)) l.left)
    ≡ l.fn.out.items ++ flat_map behind_comma (moves_from (map (λ row. row.now) l.rows) l.clocks)
