use Rattle.std.proofs.Common.{◌≡◌, ◌++◌, drop}
use Rattle.text_pgn.specs.Tags.{escaped}
use Rattle.text_pgn.proofs.tags.push_value.Given as goal

abbrev pub invariant-loop-byte : goal.invariant-loop-byte
invariant-loop-byte l = l.out.items ++ escaped (drop l.byte-index l.value) ≡ l.fn.out.items ++ escaped l.value
