use Rattle.std.proofs.Common.{◌≡◌, ◌+◌, ◌-◌, ◌≤◌, ◌<◌, ◌++◌}
use Rattle.arrayvec.specs.ArrayString.{array_string_len}
use Rattle.chess_notation.specs.Fen.{row_text, row_text_after, rank_of}
use Rattle.chess_fen.proofs.Rows.{squares_from}
use Rattle.chess_fen.proofs.fen.push_rank.Given as goal

-- What is written, with what the empty squares so far and the squares left add to it, is the whole.
abbrev pub invariant-loop-file : goal.invariant-loop-file
invariant-loop-file l = record {
  text : l.text.bytes ++ row_text_after l.empty (squares_from l._men l.rank l.file (9 - l.file)) ≡
      l.fn.text.bytes ++ row_text (rank_of l._men l.rank);
  room : array_string_len l.text + l.empty + (9 - l.file) ≤ array_string_len l.fn.text + 8;
  counted : l.empty < l.file;
}
