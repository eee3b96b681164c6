use Rattle.std.proofs.Common.{◌≡◌, ◌++◌, drop, map}
use Rattle.text_pgn.specs.Tags.{told_tags}
use Rattle.text_pgn.proofs.tags.push_tags.Given as goal

abbrev pub invariant-loop-line : goal.invariant-loop-line
invariant-loop-line l =
    l.out.items ++ told_tags l.heading (map (λ line. line.now) (drop l.line-index l.lines))
    ≡ l.fn.out.items ++ told_tags l.heading (map (λ line. line.now) l.lines)
