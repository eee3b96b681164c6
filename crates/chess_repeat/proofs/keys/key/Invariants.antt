use Rattle.std.proofs.Common.{◌≡◌, ℕ, ◌<◌, get_or, length}
use Rattle.chess_repeat.specs.Key.{men_byte}
use Rattle.chess_repeat.proofs.keys.key.Given as goal

-- the bytes of the pairs so far are written
abbrev pub invariant-loop-pair : goal.invariant-loop-pair
invariant-loop-pair l = record {
  whole : length l.bytes ≡ 34;
  written : (k : ℕ) → k < l.pair → get_or l.bytes k 0 ≡ men_byte l.board.placement k;
}
