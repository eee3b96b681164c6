-- The key of a position: 34 bytes that are equal exactly for the same positions.
use Rattle.std.specs.Prelude.{ℕ, ◌+◌, ◌*◌, Bool, cond, ◌&&◌, if◌then◌else◌, List, [], ◌∷◌, ◌++◌, map, filter, Option}
use Rattle.std.specs.Prelude.{None, Some}
use Rattle.std.specs.List.{list_any, range_with_len}
use Rattle.chess_bits.specs.declared.men.Colour.{Colour}
use Rattle.chess_bits.specs.declared.men.Colour.TheVariants.{White, Black}
use Rattle.chess_bits.specs.declared.men.Kind.{Kind}
use Rattle.chess_bits.specs.declared.men.Kind.TheVariants.{Pawn, Knight, Bishop, Rook, Queen, King}
use Rattle.chess_bits.specs.Square.{Square, squares, square_at, number_of}
use Rattle.chess_bits.specs.Man.{Man, is_man, holds}
use Rattle.chess_bits.specs.Table.{union}
use Rattle.chess_bits.specs.Attack.{pawn_attacks, reaches}
use Rattle.chess_board.specs.Position.{Position, Placement, Rights, man_at}
use Rattle.chess_board.specs.Occupancy.{squares_with, is_a}
use Rattle.chess_board.specs.Computing.{is_legal}
use Rattle.chess_moves.specs.Targets.{plain}

-- kinds are 1 to 6
abbrev pub kind_code : Kind → ℕ
kind_code Pawn = 1
kind_code Knight = 2
kind_code Bishop = 3
kind_code Rook = 4
kind_code Queen = 5
kind_code King = 6

-- white men are 1 to 6, black ones 9 to 14
abbrev pub man_code : Colour → Kind → ℕ
man_code White kind = kind_code kind
man_code Black kind = 8 + kind_code kind

-- the squares with men of three kinds: of those whose codes have a bit
abbrev pub squares_of_kinds : Kind → Kind → Kind → Placement → List Bool
squares_of_kinds a b c placement =
    union (squares_with (is_a a) placement) (union (squares_with (is_a b) placement) (squares_with (is_a c) placement))

-- an empty square is 0
abbrev pub here_code : Option Man → ℕ
here_code None = 0
here_code (Some man) = man_code man.0 man.1

-- what stands on the square of a number
abbrev pub code_at : Placement → ℕ → ℕ
code_at placement n = here_code (man_at placement (square_at n))

-- byte k, from 0 to 31, has square 2k in its low four bits and square 2k + 1 in its high four
abbrev pub men_byte : Placement → ℕ → ℕ
men_byte placement k = code_at placement (2 * k) + 16 * code_at placement (2 * k + 1)

unfoldable pub men_bytes : Placement → List ℕ
men_bytes placement = map (men_byte placement) (range_with_len 0 32)

-- byte 32: bit 0 is 1 with Black to move, and bits 1 to 4 are the castling rights
abbrev pub side_bit : Colour → ℕ
side_bit White = 0
side_bit Black = 1

abbrev pub state_byte : Colour → Rights → ℕ
state_byte side rights =
    side_bit side
    + 2 * cond rights.white_king 1 0
    + 4 * cond rights.white_queen 1 0
    + 8 * cond rights.black_king 1 0
    + 16 * cond rights.black_queen 1 0

-- the squares from which a pawn of the side to move attacks a square
abbrev pub takers : Position → Square → List Square
takers p t =
    filter (λ from. holds (is_man (p.side, Pawn)) (man_at p.placement from)
    && reaches (pawn_attacks p.side) from t) squares

-- whether one of them can legally take on the target
abbrev pub is_live : Position → Square → Bool
is_live p t = list_any (λ from. is_legal p (plain from t)) (takers p t)

-- byte 33: the number of the target where a capture en passant is legal, and else 64
abbrev pub target_code : Position → Option Square → ℕ
target_code p None = 64
target_code p (Some t) = if is_live p t then number_of t else 64

unfoldable pub target_byte : Position → ℕ
target_byte p = target_code p p.target

unfoldable pub key_of : Position → List ℕ
key_of p = men_bytes p.placement ++ (state_byte p.side p.rights ∷ target_byte p ∷ [])
