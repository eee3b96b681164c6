use Rattle.std.specs.Prelude.{ℕ, ◌≡◌, ◌+◌, ◌-◌, ◌*◌, ◌/◌, ◌%◌, ◌≤◌, ◌<◌, List, ◌++◌, length, map, replicate, Option}
use Rattle.std.specs.Prelude.{Some, None, Bool, ◌&&◌, if◌then◌else◌, ◌==◌, nat_lt, take, drop}
use Rattle.std.proofs.Common.{zero, suc, refl, arith}
use Rattle.std.specs.List.{flat_map, list_all, AllByRecursion}
use Rattle.chess_bits.specs.declared.men.Kind.{Kind}
use Rattle.chess_bits.specs.declared.men.Kind.TheVariants.{Pawn, Knight, Bishop, Rook, Queen, King}
use Rattle.chess_bits.specs.Square.{number_of, square_at, number_of-square_at, IsOnBoard}
use Rattle.chess_board.specs.declared.moves.Move.{Move}
use Rattle.byteorder.specs.Endian.{little_bytes}
use Rattle.rec_codec.specs.Field.{Field}

-- A move can be kept where it makes no pawn a king or a pawn (FIDE article 3.7.3.3).
abbrev pub CanBecome : Option Kind → Type 0
CanBecome None = Unit {0}
CanBecome (Some Pawn) = ⊥
CanBecome (Some Knight) = Unit {0}
CanBecome (Some Bishop) = Unit {0}
CanBecome (Some Rook) = Unit {0}
CanBecome (Some Queen) = Unit {0}
CanBecome (Some King) = ⊥

-- a move that can be kept
pub record IsStorable (m : Move) : Type 0 where
  pub from : IsOnBoard m.from
  pub to : IsOnBoard m.to
  pub promotion : CanBecome m.promotion

-- 0 for no promotion, 1 to 4 for a knight, bishop, rook or queen
abbrev pub promotion_number : Option Kind → ℕ
promotion_number None = 0
promotion_number (Some Knight) = 1
promotion_number (Some Bishop) = 2
promotion_number (Some Rook) = 3
promotion_number (Some Queen) = 4
promotion_number (Some _) = 0

-- a move as a number: the square left in bits 0 to 5, the square reached in bits 6 to 11, the promotion in bits 12 to
-- 14
abbrev pub move_code : Move → ℕ
move_code m = number_of m.from + 64 * number_of m.to + 4096 * promotion_number m.promotion

-- the numbers of a list of moves in 60 places, with zeros after the last
abbrev pub codes_of : List Move → List ℕ
codes_of moves = map move_code moves ++ replicate (60 - length moves) 0

-- a list of 1 to 60 moves that can be kept
pub record IsMoveList (moves : List Move) : Type 0 where
  pub some : 1 ≤ length moves
  pub few : length moves ≤ 60
  pub storable : AllByRecursion IsStorable moves

-- its field has two bytes for each of the 60 places
abbrev pub moves : ℕ → List Move → Field
moves at list = record { offset = at; width = 120; bytes = flat_map (little_bytes 2) (codes_of list) }

-- what a pawn becomes by its number
abbrev pub promotion_of : ℕ → Option Kind
promotion_of n =
    if n == 1 then Some Knight
    else if n == 2 then Some Bishop
    else if n == 3 then Some Rook
    else if n == 4 then Some Queen
    else None

-- the move of a number
abbrev pub move_of : ℕ → Move
move_of code = record {
  from = square_at (code % 64);
  to = square_at (code / 64 % 64);
  promotion = promotion_of (code / 4096);
}

-- a number is that of a move
abbrev pub IsMoveCode : ℕ → Type 0
IsMoveCode code = code < 20480

promotion_number-promotion_of : (n : ℕ) → n < 5 → promotion_number (promotion_of n) ≡ n
promotion_number-promotion_of zero h = refl
promotion_number-promotion_of (suc zero) h = refl
promotion_number-promotion_of (suc (suc zero)) h = refl
promotion_number-promotion_of (suc (suc (suc zero))) h = refl
promotion_number-promotion_of (suc (suc (suc (suc zero)))) h = refl
promotion_number-promotion_of (suc (suc (suc (suc (suc n))))) h = absurd (omega arith)

-- the number of a number's move is that number
pub move_code-move_of : (code : ℕ) → IsMoveCode code → move_code (move_of code) ≡ code
move_code-move_of code h =
    let low : code / 4096 < 5 = omega arith in
    omega (
      arith,
      number_of-square_at (code % 64),
      number_of-square_at (code / 64 % 64),
      promotion_number-promotion_of (code / 4096) low,
    )

-- so many numbers of moves, and zeros after them
abbrev pub are_codes : ℕ → List ℕ → Bool
are_codes count codes =
    list_all (λ code. nat_lt code 20480) (take count codes) && list_all (λ code. code == 0) (drop count codes)
