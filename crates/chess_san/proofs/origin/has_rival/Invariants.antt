use Rattle.std.proofs.Common.{◌≡◌}
use Rattle.chess_bits.specs.Attack.{SomeOf}
use Rattle.chess_bits.specs.SquaresOf.{squares_left}
use Rattle.chess_board.specs.Position.{man_at}
use Rattle.chess_board.specs.Legal.{EachOf}
use Rattle.chess_moves.specs.Targets.{plain}
use Rattle.chess_notation.specs.San.{IsRival, IsOn, HasRival}
use Rattle.chess_san.proofs.origin.has_rival.Given as goal

-- if there is a rival, one of the squares that are left has one; and only men of the kind are left
abbrev pub invariant-loop-from : goal.invariant-loop-from
invariant-loop-from l = record {
  some : HasRival l.board l.mv l.among → SomeOf
      (λ s. IsRival l.board l.mv (plain s l.mv.to) × IsOn l.among l.mv.from s) (squares_left l.from-iterator);
  goes : EachOf (λ s. man_at l.board.placement s ≡ man_at l.board.placement l.mv.from) (squares_left l.from-iterator);
}
