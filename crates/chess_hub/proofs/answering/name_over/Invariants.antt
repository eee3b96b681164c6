use Rattle.std.proofs.Common.{◌≡◌, ℕ, List, Option, take}
use Rattle.chess_hub.specs.Answers.{names_over}
use Rattle.chess_hub.proofs.answering.name_over.Given as goal

abbrev pub invariant-loop-line : goal.invariant-loop-line
invariant-loop-line l = (names : ℕ → Option (List ℕ)) → names l.sid ≡ l.fn.before →
    l.name ≡ names_over l.at names (take l.line-index l.lines) l.sid
