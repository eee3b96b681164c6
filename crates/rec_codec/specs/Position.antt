use Rattle.std.specs.Prelude.{ℕ, ◌+◌, ◌-◌, ◌*◌, ◌==◌, nat_lt, if◌then◌else◌, List, [], ◌∷◌, map, replicate, Option}
use Rattle.std.specs.Prelude.{Some, None}
use Rattle.std.specs.List.{range_with_len}
use Rattle.chess_bits.specs.declared.men.Colour.{Colour}
use Rattle.chess_bits.specs.declared.men.Colour.TheVariants.{White, Black}
use Rattle.chess_bits.specs.declared.men.Kind.{Kind}
use Rattle.chess_bits.specs.declared.men.Kind.TheVariants.{Pawn, Knight, Bishop, Rook, Queen, King}
use Rattle.chess_bits.specs.Square.{Square, number_of, square_at}
use Rattle.chess_bits.specs.Man.{Man}
use Rattle.chess_board.specs.Position.{Position, man_at}
use Rattle.rec_codec.specs.Field.{Field, u8, u16, laid}
use Rattle.rec_codec.specs.Flags.{flags_byte, is_black}

-- 1 to 6 for a white pawn, knight, bishop, rook, queen and king, 9 to 14 for the black ones
abbrev pub kind_number : Kind → ℕ
kind_number Pawn = 1
kind_number Knight = 2
kind_number Bishop = 3
kind_number Rook = 4
kind_number Queen = 5
kind_number King = 6

abbrev pub man_number : Man → ℕ
man_number (White, kind) = kind_number kind
man_number (Black, kind) = 8 + kind_number kind

-- what stands on a square as a number: 0 for an empty one
abbrev pub content_number : Option Man → ℕ
content_number None = 0
content_number (Some man) = man_number man

-- byte k of the men: square 2k in its low four bits, square 2k + 1 in its high four
abbrev pub pair_byte : List (Option Man) → ℕ → ℕ
pair_byte placement k =
    content_number (man_at placement (square_at (2 * k)))
    + 16 * content_number (man_at placement (square_at (2 * k + 1)))

abbrev pub men : ℕ → List (Option Man) → Field
men at placement = record { offset = at; width = 32; bytes = map (pair_byte placement) (range_with_len 0 32) }

-- the target's number, or 64
abbrev pub target_number : Option Square → ℕ
target_number None = 64
target_number (Some square) = number_of square

-- the flags of a position: Black to move, and the castling rights to the king's and the queen's wing of White and of
-- Black
abbrev pub position_flags : Position → ℕ
position_flags p =
    flags_byte (is_black p.side ∷ p.rights.white_king ∷ p.rights.white_queen ∷ p.rights.black_king ∷
    p.rights.black_queen ∷ [])

-- the fields of a position, from its own first byte
abbrev pub position_fields : Position → List Field
position_fields p =
    men 0 p.placement ∷
    u8 32 (position_flags p) ∷
    u8 33 (target_number p.target) ∷
    u16 34 p.halfmove ∷
    u16 36 p.fullmove ∷ []

unfoldable pub position_bytes : Option Position → List ℕ
position_bytes None = replicate 38 0
position_bytes (Some p) = laid 38 (position_fields p)

abbrev pub position : ℕ → Option Position → Field
position at p = record { offset = at; width = 38; bytes = position_bytes p }

-- the same numbers read: the kind, and what stands on a square
abbrev pub kind_numbered : ℕ → Option Kind
kind_numbered n =
    if n == 1 then Some Pawn
    else if n == 2 then Some Knight
    else if n == 3 then Some Bishop
    else if n == 4 then Some Rook
    else if n == 5 then Some Queen
    else if n == 6 then Some King
    else None

abbrev pub with_colour : Colour → Option Kind → Option Man
with_colour colour None = None
with_colour colour (Some kind) = Some (colour, kind)

abbrev pub man_numbered : ℕ → Option Man
man_numbered n = if nat_lt n 8 then with_colour White (kind_numbered n) else with_colour Black (kind_numbered (n - 8))
