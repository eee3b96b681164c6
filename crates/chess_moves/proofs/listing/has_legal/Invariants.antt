use Rattle.chess_bits.specs.Attack.{SomeOf}
use Rattle.chess_bits.specs.SquaresOf.{squares_left}
use Rattle.chess_moves.specs.Moves.{HasLegal, HasLegalFrom}
use Rattle.chess_moves.proofs.listing.has_legal.Given as goal

-- if a man has a legal move, one of those that are left has
abbrev pub invariant-loop-from : goal.invariant-loop-from
invariant-loop-from l = HasLegal l.board → SomeOf (HasLegalFrom l.board) (squares_left l.from-iterator)
