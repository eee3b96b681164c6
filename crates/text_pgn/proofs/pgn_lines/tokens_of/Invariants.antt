use Rattle.std.proofs.Common.{◌≡◌, ◌++◌, drop, map}
use Rattle.text_pgn.specs.Pgn.{tokens_of}
use Rattle.text_pgn.proofs.pgn_lines.tokens_of.Given as goal

abbrev pub invariant-loop-line : goal.invariant-loop-line
invariant-loop-line l =
    map (λ t. t.now) l.tokens.items ++ tokens_of (map (λ line. line.now) (drop l.line-index l.lines))
    ≡ tokens_of (map (λ line. line.now) l.lines)
