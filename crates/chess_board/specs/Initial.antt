use Rattle.std.specs.Prelude.{true, List, [], ◌∷◌, ◌++◌, map, replicate, Option, Some, None}
use Rattle.chess_bits.specs.declared.men.Colour.{Colour}
use Rattle.chess_bits.specs.declared.men.Colour.TheVariants.{White, Black}
use Rattle.chess_bits.specs.declared.men.Kind.{Kind}
use Rattle.chess_bits.specs.declared.men.Kind.TheVariants.{Pawn, Knight, Bishop, Rook, Queen, King}
use Rattle.chess_bits.specs.Man.{Man}
use Rattle.chess_board.specs.Position.{Position}

-- the pieces of a side from the a-file to the h-file; its pawns stand in front of them (FIDE article 2.3)
abbrev pub pieces : List Kind
pieces = Rook ∷ Knight ∷ Bishop ∷ Queen ∷ King ∷ Bishop ∷ Knight ∷ Rook ∷ []

abbrev pub row : Colour → List Kind → List (Option Man)
row side kinds = map (λ kind. Some (side, kind)) kinds

-- the position in which a game starts: White to move, with every castling right
abbrev pub initial : Position
initial = record {
  placement = row White pieces ++ row White (replicate 8 Pawn) ++ replicate 32 None ++ row Black (replicate 8
      Pawn) ++ row Black pieces;
  side = White;
  rights = record { white_king = true; white_queen = true; black_king = true; black_queen = true };
  target = None;
  halfmove = 0;
  fullmove = 1;
}
