use Rattle.chess_bits.specs.declared.men.Kind.TheVariants.{King}
use Rattle.chess_bits.specs.SquaresOf.{squares_left}
use Rattle.chess_moves.specs.Targets.{GoesTo, LeavesKingSafe}
use Rattle.chess_moves.proofs.Safely.{KeepsSafe}
use Rattle.chess_moves.proofs.safe.king_goes.Given as goal

-- what is left of the targets, while those that are left are still to be judged
abbrev pub invariant-loop-to : goal.invariant-loop-to
invariant-loop-to l =
    KeepsSafe (GoesTo l.board King l.from) (LeavesKingSafe l.board l.from) l.safe (squares_left l.to-iterator)
