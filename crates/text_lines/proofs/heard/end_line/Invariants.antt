use Rattle.std.proofs.Common.{◌≡◌, ◌+◌, ◌++◌, take, vec_len, vec_capacity}
use Rattle.text_lines.proofs.heard.end_line.Given as goal

abbrev pub invariant-loop-byte : goal.invariant-loop-byte
invariant-loop-byte l =
    (l.whole.items ≡ l.fn.whole.items ++ take l.byte-index l.byte-items)
    × (vec_len l.whole ≡ vec_len l.fn.whole + l.byte-index)
    × (vec_capacity l.whole ≡ vec_capacity l.fn.whole)
