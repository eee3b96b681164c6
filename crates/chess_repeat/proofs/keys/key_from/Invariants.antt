use Rattle.std.proofs.Common.{◌≡◌, ℕ, ◌<◌, get_or, length}
use Rattle.chess_bits.specs.Attack.{SomeOf}
use Rattle.chess_bits.specs.SquaresOf.{squares_left}
use Rattle.chess_repeat.specs.Key.{men_byte}
use Rattle.chess_repeat.proofs.KeyChanges.{PointsTo}
use Rattle.chess_repeat.proofs.keys.key_from.Given as goal

-- the bytes are right but for those of squares that are still to come
abbrev pub invariant-loop-square : goal.invariant-loop-square
invariant-loop-square l = record {
  whole : length l.bytes ≡ 34;
  written : (k : ℕ) → k < 32 → ¬ SomeOf (PointsTo k) (squares_left l.square-iterator) →
      get_or l.bytes k 0 ≡ men_byte l.board.placement k;
}
