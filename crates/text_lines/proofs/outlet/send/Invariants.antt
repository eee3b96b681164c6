-- What is gone from `rest` was written.
use Rattle.std.proofs.Common.{◌≡◌, List, ℕ, ◌++◌}
use Rattle.std.specs.Io.KnownBytes.{Appends}
use Rattle.text_lines.proofs.outlet.send.Given as goal

abbrev pub invariant-loop : goal.invariant-loop
invariant-loop g l = (done : List ℕ) × (l.text ≡ done ++ l.rest) × Appends (g.W.Write.contents l.fn.writer)
    (g.W.Write.contents l.writer) done
