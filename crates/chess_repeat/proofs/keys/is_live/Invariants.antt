use Rattle.std.proofs.Common.{◌≡◌}
use Rattle.std.specs.List.{list_any}
use Rattle.chess_bits.specs.SquaresOf.{squares_left}
use Rattle.chess_board.specs.Computing.{is_legal}
use Rattle.chess_moves.specs.Targets.{plain}
use Rattle.chess_repeat.specs.Key.{is_live}
use Rattle.chess_repeat.proofs.keys.is_live.Given as goal

-- the answer rests with the squares that are left
abbrev pub invariant-loop-from : goal.invariant-loop-from
invariant-loop-from l =
    is_live l.board l.target ≡ list_any (λ from. is_legal l.board (plain from l.target)) (squares_left l.from-iterator)
