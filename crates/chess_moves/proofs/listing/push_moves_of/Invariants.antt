use Rattle.std.proofs.Common.{◌≡◌, ◌++◌}
use Rattle.std.specs.Prelude.{flat_map}
use Rattle.chess_bits.specs.SquaresOf.{squares_left}
use Rattle.chess_moves.specs.Listing.{legal_from, choices}
use Rattle.chess_moves.proofs.listing.push_moves_of.Given as goal

-- with the moves to the squares that are left, these are all the moves
abbrev pub invariant-loop-to : goal.invariant-loop-to
invariant-loop-to l =
    l.moves.items ++ flat_map (choices l.board.side l.kind l.from) (squares_left l.to-iterator) ≡
    l.initial.moves.items ++ legal_from l.board l.from
