use Rattle.std.specs.Prelude.{ℕ, ◌≡◌, ◌+◌, ◌-◌, ◌*◌, ◌/◌, ◌%◌, ◌≤◌, Bool, ◌&&◌, ◌==◌, nat_le, List, map}
use Rattle.std.proofs.Common.{arith}
use Rattle.std.specs.List.{range_with_len}

-- A square is a pair of file and rank (FIDE article 2.4): the files a to h are 1 to 8, and the ranks are 1 to 8.
pub record Square : Type 0 where
  pub file : ℕ
  pub rank : ℕ

abbrev pub square : ℕ → ℕ → Square
square file rank = record { file = file; rank = rank }

-- a pair of numbers that is a square of the board
pub record IsOnBoard (s : Square) : Type 0 where
  pub file_from : 1 ≤ s.file
  pub file_to : s.file ≤ 8
  pub rank_from : 1 ≤ s.rank
  pub rank_to : s.rank ≤ 8

-- the same as a test
abbrev pub on_board : Square → Bool
on_board s = nat_le 1 s.file && nat_le s.file 8 && nat_le 1 s.rank && nat_le s.rank 8

abbrev pub is_square : Square → Square → Bool
is_square a b = (a.file == b.file) && (a.rank == b.rank)

-- the number of a square: a1 is 0, h1 is 7, a2 is 8, h8 is 63
abbrev pub number_of : Square → ℕ
number_of s = 8 * (s.rank - 1) + (s.file - 1)

abbrev pub square_at : ℕ → Square
square_at n = record { file = n % 8 + 1; rank = n / 8 + 1 }

-- the squares of the board, by rising number
unfoldable pub squares : List Square
squares = map square_at (range_with_len 0 64)

-- a number is that of its square
pub number_of-square_at : (n : ℕ) → number_of (square_at n) ≡ n
number_of-square_at n = omega arith
