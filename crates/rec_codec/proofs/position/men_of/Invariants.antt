use Rattle.std.proofs.Common.{◌≡◌, ℕ, ◌*◌, ◌<◌, List, Option, None, length, map, get_or}
use Rattle.std.specs.List.{range_with_len}
use Rattle.chess_bits.specs.Man.{Man}
use Rattle.rec_codec.specs.Position.{pair_byte}
use Rattle.rec_codec.proofs.position.men_of.Given as goal

abbrev pub invariant-loop-k : goal.invariant-loop-k
invariant-loop-k l = record {
  whole : length l.men ≡ 64;
  done : (p : List (Option Man)) → length p ≡ 64 → l.bytes ≡ map (pair_byte p) (range_with_len 0 32) →
      (j : ℕ) → j < 2 * l.k → get_or l.men j None ≡ get_or p j None;
}
