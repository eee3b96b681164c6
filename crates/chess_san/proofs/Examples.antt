-- SAN that is computed on positions.
use Prim.Native.String.{String as Text}
use Rattle.std.specs.Prelude.{◌≡◌, ◌-◌, Bool, true, false, List, [], ◌∷◌, replicate, codes, slice_index, slice_set, Option, Some, None}
use Rattle.std.proofs.Common.{refl}
use Rattle.chess_bits.specs.declared.men.Colour.{Colour}
use Rattle.chess_bits.specs.declared.men.Colour.TheVariants.{White, Black}
use Rattle.chess_bits.specs.declared.men.Kind.{Kind}
use Rattle.chess_bits.specs.declared.men.Kind.TheVariants.{Pawn, Knight, Bishop, Rook, Queen, King}
use Rattle.chess_bits.specs.Square.{Square, squares, number_of}
use Rattle.chess_bits.specs.Man.{Man}
use Rattle.chess_bits.specs.Table.{at, put}
use Rattle.chess_board.specs.declared.moves.Move.{Move}
use Rattle.chess_board.specs.Position.{Position}
use Rattle.chess_board.specs.Next.{placement_after, rights_after, target_after, halfmove_after}
use Rattle.chess_san.specs.Computing.{san_of}

-- a square by its name
square_of : Text → Square
square_of name = record { file = slice_index (codes name) 0 - 96; rank = slice_index (codes name) 1 - 48 }

-- men and the names of their squares
men_of : List (Text × Man) → List (Option Man)
men_of [] = replicate 64 None
men_of ((name, man) ∷ others) = slice_set (men_of others) (number_of (square_of name)) (Some man)

position : Colour → List (Text × Man) → Position
position side men = record {
  placement = men_of men;
  side = side;
  rights = record { white_king = false; white_queen = true; black_king = false; black_queen = false };
  target = None;
  halfmove = 0;
  fullmove = 1;
}

move : Text → Text → Option Kind → Move
move from to promotion = record { from = square_of from; to = square_of to; promotion = promotion }

-- opens all that the examples compute with
opened : Bool
unfolding at put squares placement_after rights_after target_after halfmove_after square_of men_of position move
opened = true

queens : Position
queens =
    position White (("a1", (White, King)) ∷ ("b8", (Black, King)) ∷ ("e4", (White, Queen)) ∷ ("h4", (White, Queen)) ∷
    ("h1", (White, Queen)) ∷ [])

queen_by_file : san_of queens (move "e4" "e1" None) ≡ codes "Qee1"
unfolding opened queens
queen_by_file = refl

queen_by_rank : san_of queens (move "h1" "e1" None) ≡ codes "Q1e1"
unfolding opened queens
queen_by_rank = refl

queen_by_square : san_of queens (move "h4" "e1" None) ≡ codes "Qh4e1"
unfolding opened queens
queen_by_square = refl

pinned : Position
pinned =
    position White (("e1", (White, King)) ∷ ("g1", (White, Knight)) ∷ ("c3", (White, Knight)) ∷ ("b4", (Black, Bishop)) ∷
    ("e8", (Black, King)) ∷ [])

pinned_is_no_rival : san_of pinned (move "g1" "e2" None) ≡ codes "Ne2"
unfolding opened pinned
pinned_is_no_rival = refl

promoting : Position
promoting =
    position White (("g6", (White, King)) ∷ ("a7", (White, Pawn)) ∷ ("b8", (Black, Rook)) ∷ ("h8", (Black, King)) ∷ [])

takes_and_mates : san_of promoting (move "a7" "b8" (Some Queen)) ≡ codes "axb8=Q#"
unfolding opened promoting
takes_and_mates = refl

castling : san_of (position White (("e1", (White, King)) ∷ ("a1", (White, Rook)) ∷ ("e8", (Black, King)) ∷
    ("b2", (Black, Rook)) ∷ [])) (move "e1" "c1" None) ≡ codes "O-O-O"
unfolding opened
castling = refl
