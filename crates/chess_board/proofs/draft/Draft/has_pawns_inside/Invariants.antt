use Rattle.std.proofs.Common.{◌≡◌}
use Rattle.std.specs.List.{list_all}
use Rattle.chess_bits.specs.declared.men.Kind.TheVariants.{Pawn}
use Rattle.chess_bits.specs.Table.{members}
use Rattle.chess_bits.specs.SquaresOf.{squares_left}
use Rattle.chess_board.specs.Occupancy.{squares_with, is_a}
use Rattle.chess_board.specs.Computing.{is_inside}
use Rattle.chess_board.proofs.draft.Draft.has_pawns_inside.Given as goal

-- the pawns so far are inside
abbrev pub invariant-loop-square : goal.invariant-loop-square
invariant-loop-square l =
    list_all is_inside (members (squares_with (is_a Pawn) l.self.men)) ≡ list_all is_inside (squares_left
    l.square-iterator)
