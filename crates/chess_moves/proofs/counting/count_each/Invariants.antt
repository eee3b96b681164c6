use Rattle.chess_bits.specs.SquaresOf.{squares_left}
use Rattle.chess_moves.proofs.Tallied.{IsCount}
use Rattle.chess_moves.proofs.counting.count_each.Given as goal

-- what is left is of the set, and with its moves these are all
abbrev pub invariant-loop-from : goal.invariant-loop-from
invariant-loop-from l = IsCount l.board l.fn.men l.count (squares_left l.from-iterator)
