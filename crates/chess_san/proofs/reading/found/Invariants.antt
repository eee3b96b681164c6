use Rattle.std.proofs.Common.{◌≡◌, Some}
use Rattle.chess_bits.specs.Attack.{SomeOf}
use Rattle.chess_bits.specs.SquaresOf.{squares_left}
use Rattle.chess_board.specs.declared.moves.Move.{Move}
use Rattle.chess_board.specs.Position.{man_at}
use Rattle.chess_board.specs.Legal.{EachOf}
use Rattle.chess_notation.specs.Naming.{IsSanOrBody}
use Rattle.chess_san.proofs.reading.found.Given as goal

-- if a move that does what is asked for has the text, one from a square that is left has; and only men of the kind are left
abbrev pub invariant-loop-from : goal.invariant-loop-from
invariant-loop-from l = record {
  some : (m : Move) → man_at l.board.placement m.from ≡ Some (l.board.side, l.asked.kind) → m.to ≡ l.asked.to →
      m.promotion ≡ l.asked.promotion → IsSanOrBody l.board m l.text →
      SomeOf (λ s. IsSanOrBody l.board (record { from = s; to = l.asked.to; promotion = l.asked.promotion }) l.text)
      (squares_left l.from-iterator);
  goes : EachOf (λ s. man_at l.board.placement s ≡ Some (l.board.side, l.asked.kind)) (squares_left l.from-iterator);
}
