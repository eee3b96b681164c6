use Rattle.std.specs.Prelude.{List}
use Rattle.chess_bits.specs.declared.bit_set.SquaresOf.{SquaresOf}
use Rattle.chess_bits.specs.Square.{Square}
use Rattle.chess_bits.specs.Table.{members}

-- the squares that an iterator has still to give
abbrev pub squares_left : SquaresOf → List Square
squares_left it = members it.rest
