use Rattle.std.specs.Prelude.{◌≡◌, if◌then◌else◌, map, Option, Some, None}
use Rattle.chess_bits.specs.declared.men.Colour.TheVariants.{White, Black}
use Rattle.chess_bits.specs.declared.men.Kind.{Kind}
use Rattle.chess_bits.specs.declared.men.Kind.TheVariants.{Pawn, Knight, Bishop, Rook, Queen, King}
use Rattle.chess_bits.specs.Square.{Square, squares}
use Rattle.chess_bits.specs.Man.{Man, is_of}
use Rattle.chess_bits.specs.Table.{has}
use Rattle.chess_bits.specs.Placement.{Placement}
use Rattle.chess_board.specs.Occupancy.{squares_with, is_a}
use Rattle.chess_board.specs.declared.men.Men.TheInside.{Inside}

-- the kind that the sets tell of a square with a man, which is in one set of kinds
abbrev pub kind_on : Inside → Square → Kind
kind_on sets s =
    if has sets.pawns s then Pawn
    else if has sets.knights s then Knight
    else if has sets.bishops s then Bishop
    else if has sets.rooks s then Rook
    else if has sets.queens s then Queen
    else King

-- the man that the sets tell of a square
unfoldable pub man_on : Inside → Square → Option Man
man_on sets s =
    if has sets.white s then Some (White, kind_on sets s)
    else if has sets.black s then Some (Black, kind_on sets s)
    else None

-- the placement that the sets tell
unfoldable pub placement_of : Inside → Placement
placement_of sets = map (man_on sets) squares

-- the sets that a placement has
unfoldable pub sets_of : Placement → Inside
sets_of placement = record {
  white = squares_with (is_of White) placement;
  black = squares_with (is_of Black) placement;
  pawns = squares_with (is_a Pawn) placement;
  knights = squares_with (is_a Knight) placement;
  bishops = squares_with (is_a Bishop) placement;
  rooks = squares_with (is_a Rook) placement;
  queens = squares_with (is_a Queen) placement;
  kings = squares_with (is_a King) placement;
}

-- the sets are those of the placement that they tell: each square is in one set of colours and in one of kinds, or in
-- none
abbrev pub IsConsistent : Inside → Type 0
IsConsistent sets = sets_of (placement_of sets) ≡ sets
