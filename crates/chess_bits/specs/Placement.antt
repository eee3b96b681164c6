use Rattle.std.specs.Prelude.{Bool, List, map, Option, None, is_some}
use Rattle.chess_bits.specs.Square.{Square}
use Rattle.chess_bits.specs.Man.{Man}
use Rattle.chess_bits.specs.Table.{at}

-- A placement is a finite map from squares to men (FIDE articles 2.1 to 2.3), written as the list of its values by
-- rising number of the square.
abbrev pub Placement : Type 0
Placement = List (Option Man)

-- what stands on a square
abbrev pub man_at : Placement → Square → Option Man
man_at placement s = at None placement s

-- the squares with men
abbrev pub occupied_of : Placement → List Bool
occupied_of placement = map is_some placement
