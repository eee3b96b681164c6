use Rattle.std.proofs.Common.{◌≡◌, ◌++◌, drop, map, flat_map}
use Rattle.text_pgn.specs.Json.{behind_comma}
use Rattle.text_pgn.specs.Spectators.{tag_json}
use Rattle.text_pgn.proofs.json_tags.push_more_tags.Given as goal

abbrev pub invariant-loop-line : goal.invariant-loop-line
invariant-loop-line l =
    l.out.items ++ flat_map behind_comma (map tag_json (map (λ line. line.now) (drop l.line-index l.tags)))
    ≡ l.fn.out.items ++ flat_map behind_comma (map tag_json (map (λ line. line.now) l.tags))
