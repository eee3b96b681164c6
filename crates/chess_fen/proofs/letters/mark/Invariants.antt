use Rattle.std.specs.Prelude.{◌≡◌, true, false, slice_index, length}
use Rattle.std.specs.List.{list_any}
use Rattle.chess_bits.specs.Square.{Square, IsOnBoard, is_square, number_of}
use Rattle.chess_bits.specs.Table.{has}
use Rattle.chess_bits.specs.SquaresOf.{squares_left}
use Rattle.chess_bits.proofs.AlongLemmas.{PassesEach}
use Rattle.chess_fen.proofs.letters.mark.Given as goal

-- the squares of the set but those that are left have the letter, and those out of the set what they had
abbrev pub invariant-loop-square : goal.invariant-loop-square
invariant-loop-square l = record {
  kept : (s : Square) → IsOnBoard s → has l.fn.squares s ≡ false →
      slice_index l.letters (number_of s) ≡ slice_index l.fn.letters (number_of s);
  marked : (s : Square) → IsOnBoard s → has l.fn.squares s ≡ true →
      list_any (is_square s) (squares_left l.square-iterator) ≡ false → slice_index l.letters (number_of s) ≡ l.fn.letter;
  members : PassesEach (has l.fn.squares) (squares_left l.square-iterator);
  whole : length l.letters ≡ 64;
}
