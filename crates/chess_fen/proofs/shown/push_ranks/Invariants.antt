use Rattle.std.proofs.Common.{◌≡◌, ◌+◌, ◌*◌, ◌≤◌, ◌++◌}
use Rattle.arrayvec.specs.ArrayString.{array_string_len}
use Rattle.chess_notation.specs.Fen.{placement_text}
use Rattle.chess_fen.proofs.Ranks.{ranks_below}
use Rattle.chess_fen.proofs.shown.push_ranks.Given as goal

-- What is written, with the ranks that are left, is the whole.
abbrev pub invariant-loop-rank : goal.invariant-loop-rank
invariant-loop-rank l = record {
  text : l.text.bytes ++ ranks_below l._men l.rank ≡ placement_text l._men;
  room : array_string_len l.text + 9 * l.rank ≤ 80;
  low : 1 ≤ l.rank;
}
