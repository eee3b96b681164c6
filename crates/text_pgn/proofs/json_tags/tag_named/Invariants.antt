use Rattle.std.proofs.Common.{◌≡◌, drop, map}
use Rattle.std.specs.List.{find}
use Rattle.std.specs.Str.{bytes_eq}
use Rattle.text_pgn.specs.Spectators.{tag_name}
use Rattle.text_pgn.proofs.json_tags.tag_named.Given as goal

abbrev pub invariant-loop-line : goal.invariant-loop-line
invariant-loop-line l =
    find (λ line. bytes_eq (tag_name line) l.name) (map (λ line. line.now) (drop l.line-index l.tags))
    ≡ find (λ line. bytes_eq (tag_name line) l.name) (map (λ line. line.now) l.tags)
