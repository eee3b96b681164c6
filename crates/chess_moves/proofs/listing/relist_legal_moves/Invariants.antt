use Rattle.std.proofs.Common.{◌≡◌, ◌++◌}
use Rattle.std.specs.Prelude.{flat_map}
use Rattle.chess_bits.specs.SquaresOf.{squares_left}
use Rattle.chess_board.specs.Computing.{legal_moves_of}
use Rattle.chess_moves.specs.Listing.{legal_from}
use Rattle.chess_moves.proofs.listing.relist_legal_moves.Given as goal

-- with the moves from the squares that are left, these are all the moves
abbrev pub invariant-loop-from : goal.invariant-loop-from
invariant-loop-from l =
    l.moves.items ++ flat_map (legal_from l.board) (squares_left l.from-iterator) ≡ legal_moves_of l.board
