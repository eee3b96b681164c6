use Rattle.std.proofs.Common.{◌≡◌, ◌++◌, drop, map}
use Rattle.text_pgn.specs.Named.{named_lines}
use Rattle.text_pgn.proofs.players.push_all.Given as goal

abbrev pub invariant-loop-line : goal.invariant-loop-line
invariant-loop-line l =
    l.out.items ++ named_lines l.white l.black (map (λ line. line.now) (drop l.line-index l.lines))
    ≡ l.fn.out.items ++ named_lines l.white l.black (map (λ line. line.now) l.lines)
