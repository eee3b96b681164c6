-- Worked positions, computed.
use Rattle.std.specs.Prelude.{◌≡◌, Bool, true, false, List, [], ◌∷◌, replicate, Some, None, refl}
use Rattle.chess_bits.specs.declared.men.Colour.{Colour}
use Rattle.chess_bits.specs.declared.men.Colour.TheVariants.{White, Black}
use Rattle.chess_bits.specs.declared.men.Kind.TheVariants.{Pawn, Knight, Bishop, Rook, Queen, King}
use Rattle.chess_bits.specs.Square.{Square, square, squares}
use Rattle.chess_bits.specs.Man.{Man}
use Rattle.chess_bits.specs.Table.{at, put}
use Rattle.chess_bits.specs.Placement.{Placement}
use Rattle.chess_board.specs.Position.{Position}
use Rattle.chess_board.specs.Next.{placement_after, rights_after, target_after, halfmove_after}
use Rattle.chess_end.specs.Computing.{is_listed_dead, has_king_alone, is_checkmate, is_stalemate}

men : List (Square × Man) → Placement
men [] = replicate 64 None
men (one ∷ rest) = put (men rest) one.0 (Some one.1)

-- the side to move, and the men
position : Colour → List (Square × Man) → Position
position side list = record {
  placement = men list;
  side = side;
  rights = record { white_king = false; white_queen = false; black_king = false; black_queen = false };
  target = None;
  halfmove = 0;
  fullmove = 1;
}

-- opens all that the examples compute with
opened : Bool
unfolding at put squares placement_after rights_after target_after halfmove_after men position
opened = true

-- kings on e1 and e8
with_kings : List (Square × Man) → List (Square × Man)
with_kings rest = (square 5 1, (White, King)) ∷ (square 5 8, (Black, King)) ∷ rest

-- kings alone, one knight, bishops on c1 and f8, both dark
kings_dead : is_listed_dead (men (with_kings [])) ≡ true
unfolding opened with_kings
kings_dead = refl

knight_dead : is_listed_dead (men (with_kings ((square 7 8, (Black, Knight)) ∷ []))) ≡ true
unfolding opened with_kings
knight_dead = refl

bishops_dead : is_listed_dead (men (with_kings ((square 3 1, (White, Bishop)) ∷ (square 6 8, (Black, Bishop)) ∷ [])))
    ≡ true
unfolding opened with_kings
bishops_dead = refl

-- bishops on c1 and c8, which is light; two knights; a knight and a bishop; a pawn
bishops_not_listed :
    is_listed_dead (men (with_kings ((square 3 1, (White, Bishop)) ∷ (square 3 8, (Black, Bishop)) ∷ []))) ≡ false
unfolding opened with_kings
bishops_not_listed = refl

knights_not_listed :
    is_listed_dead (men (with_kings ((square 7 1, (White, Knight)) ∷ (square 7 8, (Black, Knight)) ∷ []))) ≡ false
unfolding opened with_kings
knights_not_listed = refl

minors_not_listed :
    is_listed_dead (men (with_kings ((square 7 1, (White, Knight)) ∷ (square 6 1, (White, Bishop)) ∷ []))) ≡ false
unfolding opened with_kings
minors_not_listed = refl

pawn_not_listed : is_listed_dead (men (with_kings ((square 5 2, (White, Pawn)) ∷ []))) ≡ false
unfolding opened with_kings
pawn_not_listed = refl

-- the king alone is asked of one side
white_has_more : has_king_alone (men (with_kings ((square 5 2, (White, Pawn)) ∷ []))) White ≡ false
unfolding opened with_kings
white_has_more = refl

black_alone : has_king_alone (men (with_kings ((square 5 2, (White, Pawn)) ∷ []))) Black ≡ true
unfolding opened with_kings
black_alone = refl

-- Ra8 against the king on h8, with the king on g6, and the same with the rook still on a1
mate : Position
mate = position Black
    ((square 1 8, (White, Rook)) ∷ (square 8 8, (Black, King)) ∷ (square 7 6, (White, King)) ∷ [])

mated : is_checkmate mate ≡ true
unfolding opened mate
mated = refl

no_stalemate : is_stalemate mate ≡ false
unfolding opened mate
no_stalemate = refl

not_mated : is_checkmate (position Black
    ((square 1 1, (White, Rook)) ∷ (square 8 8, (Black, King)) ∷ (square 7 6, (White, King)) ∷ [])) ≡ false
unfolding opened
not_mated = refl

-- Qf7 against the king on h8
stale : Position
stale = position Black
    ((square 6 7, (White, Queen)) ∷ (square 8 8, (Black, King)) ∷ (square 1 1, (White, King)) ∷ [])

stalemated : is_stalemate stale ≡ true
unfolding opened stale
stalemated = refl

no_mate : is_checkmate stale ≡ false
unfolding opened stale
no_mate = refl
