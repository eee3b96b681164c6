use Rattle.std.proofs.Common.{◌≡◌, ◌-◌, ◌++◌, map, take, replicate}
use Rattle.std.specs.List.{AllByRecursion}
use Rattle.chess_bits.specs.Square.{IsOnBoard}
use Rattle.rec_codec.specs.Moves.{move_code}
use Rattle.rec_codec.proofs.moves.codes_of.Given as goal

abbrev pub invariant-loop-i : goal.invariant-loop-i
invariant-loop-i l = record {
  codes : l.codes ≡ map move_code (take l.i l.moves) ++ replicate (60 - l.i) 0;
  on_board : AllByRecursion (λ m. IsOnBoard m.from × IsOnBoard m.to) (take l.i l.moves);
}
