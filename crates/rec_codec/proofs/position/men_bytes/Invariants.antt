use Rattle.std.proofs.Common.{◌≡◌, ℕ, ◌<◌, length, get_or}
use Rattle.rec_codec.specs.Position.{pair_byte}
use Rattle.rec_codec.proofs.position.men_bytes.Given as goal

abbrev pub invariant-loop-k : goal.invariant-loop-k
invariant-loop-k l = record {
  whole : length l.bytes ≡ 32;
  done : (k : ℕ) → k < l.k → get_or l.bytes k 0 ≡ pair_byte l.board.placement k;
}
