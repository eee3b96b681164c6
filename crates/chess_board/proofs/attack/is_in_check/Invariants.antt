use Rattle.chess_bits.specs.declared.men.Kind.TheVariants.{King}
use Rattle.chess_bits.specs.Man.{other, is_man}
use Rattle.chess_bits.specs.Attack.{SomeOf}
use Rattle.chess_bits.specs.Table.{has}
use Rattle.chess_bits.specs.SquaresOf.{squares_left}
use Rattle.chess_bits.proofs.AlongLemmas.{PassesEach}
use Rattle.chess_board.specs.Occupancy.{squares_with}
use Rattle.chess_board.specs.Position.{IsInCheck, IsAttacked}
use Rattle.chess_board.proofs.attack.is_in_check.Given as goal

-- if a king is attacked, one of those that are left is; and only kings are left
abbrev pub invariant-loop-square : goal.invariant-loop-square
invariant-loop-square l = record {
  some : IsInCheck l.men l.side → SomeOf (IsAttacked l.men (other l.side)) (squares_left l.square-iterator);
  kings : PassesEach (has (squares_with (is_man (l.side, King)) l.men)) (squares_left l.square-iterator);
}
