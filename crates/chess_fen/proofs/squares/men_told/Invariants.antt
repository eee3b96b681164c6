use Rattle.std.proofs.Common.{◌≡◌, List, Option, length, drop}
use Rattle.chess_bits.specs.Man.{Man}
use Rattle.chess_notation.specs.Fen.{placement_text}
use Rattle.chess_fen.proofs.Told.{IsTold}
use Rattle.chess_fen.proofs.squares.men_told.Given as goal

-- Where the text is a placement's, the characters so far have told its men up to a place.
abbrev pub invariant-loop-letter : goal.invariant-loop-letter
invariant-loop-letter l = record {
  whole : length l.men ≡ 64;
  along : (p : List (Option Man)) → length p ≡ 64 → l.letter-items ≡ placement_text p →
      IsTold p (drop l.letter-index l.letter-items) l.men l.told;
}
