-- Neighbours of a square, and squares' shades.
use Rattle.std.specs.Prelude.{ℕ, ◌≡◌, ◌+◌, ◌%◌, ◌==◌, ◌<◌, ◌≤◌, ◌⊎◌, Bool, true, false, not, List}
use Rattle.std.proofs.Common.{arith, ap, sym, ◌∙◌, inl, inr}
use Rattle.std.proofs.lemmas.Bool.{cases_lt, cases_order}
use Rattle.std.proofs.lemmas.Bool.Decides.{nat_tests}
use Rattle.chess_bits.specs.Square.{Square, square, IsOnBoard}
use Rattle.chess_bits.specs.Attack.{along, north, east, south, west, north_east, south_east, south_west, north_west, diagonal, adjoining, knight_steps, Reaches, Slides, SlidesAlong}
use Rattle.chess_bits.proofs.TableLemmas.{same_square}
use Rattle.chess_end.specs.Material.{is_dark}

-- ---- a king's steps

-- at most one file and one rank away
pub record IsNear (a b : Square) : Type 0 where
  pub right : b.file ≤ a.file + 1
  pub left : a.file ≤ b.file + 1
  pub up : b.rank ≤ a.rank + 1
  pub down : a.rank ≤ b.rank + 1

files_near : (a b : Square) → IsOnBoard a → Reaches adjoining a b → (b.file ≤ a.file + 1) × (a.file ≤ b.file + 1)
files_near a b on reached = grind arith

ranks_near : (a b : Square) → IsOnBoard a → Reaches adjoining a b → (b.rank ≤ a.rank + 1) × (a.rank ≤ b.rank + 1)
ranks_near a b on reached = grind arith

pub IsNear-reached : (a b : Square) → IsOnBoard a → Reaches adjoining a b → IsNear a b
IsNear-reached a b on reached =
    let files = files_near a b on reached in
    let ranks = ranks_near a b on reached in
    record { right = files.0; left = files.1; up = ranks.0; down = ranks.1 }

same_file : (a b : Square) → IsOnBoard a → IsNear a b → a.file ≡ b.file → (a ≡ b) ⊎ Reaches adjoining a b
same_file a b on near file = elim (cases_order a.rank b.rank) [
  | inl rank ↦ inl (same_square a b file rank)
  | inr (inl above) ↦ inr (inl (same_square b (along 1 north a) (omega arith) (omega arith)))
  | inr (inr below) ↦ inr (inr (inr (inl (same_square b (along 1 south a) (omega arith) (omega arith)))))
]

right_of : (a b : Square) → IsOnBoard a → IsNear a b → a.file < b.file → Reaches adjoining a b
right_of a b on near file = elim (cases_order a.rank b.rank) [
  | inl rank ↦ inr (inl (same_square b (along 1 east a) (omega arith) (omega arith)))
  | inr (inl above) ↦
      inr (inr (inr (inr (inl (same_square b (along 1 north_east a) (omega arith) (omega arith))))))
  | inr (inr below) ↦
      inr (inr (inr (inr (inr (inl (same_square b (along 1 south_east a) (omega arith) (omega arith)))))))
]

left_of : (a b : Square) → IsOnBoard a → IsNear a b → b.file < a.file → Reaches adjoining a b
left_of a b on near file = elim (cases_order a.rank b.rank) [
  | inl rank ↦ inr (inr (inr (inl (same_square b (along 1 west a) (omega arith) (omega arith)))))
  | inr (inl above) ↦
      inr (inr (inr (inr (inr (inr (inr (inl (same_square b (along 1 north_west a) (omega arith) (omega arith)))))))))
  | inr (inr below) ↦
      inr (inr (inr (inr (inr (inr (inl (same_square b (along 1 south_west a) (omega arith) (omega arith))))))))
]

pub reached-IsNear : (a b : Square) → IsOnBoard a → IsNear a b → (a ≡ b) ⊎ Reaches adjoining a b
reached-IsNear a b on near = elim (cases_order a.file b.file) [
  | inl file ↦ same_file a b on near file
  | inr (inl right) ↦ inr (right_of a b on near right)
  | inr (inr left) ↦ inr (left_of a b on near left)
]

-- ---- two neighbours, one on the same rank, one on the same file

-- a neighbour whose file and rank add up to one more or less
pub record IsBeside (a b : Square) : Type 0 where
  pub on_board : IsOnBoard b
  pub reached : Reaches adjoining a b
  pub sum : (b.file + b.rank ≡ a.file + a.rank + 1) ⊎ (a.file + a.rank ≡ b.file + b.rank + 1)

pub beside_on_rank : (a : Square) → IsOnBoard a → (b : Square) × IsBeside a b × (b.rank ≡ a.rank)
beside_on_rank a on = elim (cases_lt a.file 8) [
  | inl room ↦ (
    square (a.file + 1) a.rank,
    record {
      on_board = record {
        file_from = omega arith;
        file_to = omega arith;
        rank_from = on.rank_from;
        rank_to = on.rank_to;
      };
      reached = inr (inl (same_square (square (a.file + 1) a.rank) (along 1 east a) (omega arith) (omega arith)));
      sum = inl (omega arith);
    },
    λ i. a.rank,
  )
  | inr last ↦ (
    square 7 a.rank,
    record {
      on_board = record {
        file_from = omega arith;
        file_to = omega arith;
        rank_from = on.rank_from;
        rank_to = on.rank_to;
      };
      reached = inr (inr (inr (inl (same_square (square 7 a.rank) (along 1 west a) (omega arith) (omega arith)))));
      sum = inr (omega arith);
    },
    λ i. a.rank,
  )
]

pub beside_on_file : (a : Square) → IsOnBoard a → (b : Square) × IsBeside a b × (b.file ≡ a.file)
beside_on_file a on = elim (cases_lt a.rank 8) [
  | inl room ↦ (
    square a.file (a.rank + 1),
    record {
      on_board = record {
        file_from = on.file_from;
        file_to = on.file_to;
        rank_from = omega arith;
        rank_to = omega arith;
      };
      reached = inl (same_square (square a.file (a.rank + 1)) (along 1 north a) (omega arith) (omega arith));
      sum = inl (omega arith);
    },
    λ i. a.file,
  )
  | inr last ↦ (
    square a.file 7,
    record {
      on_board = record {
        file_from = on.file_from;
        file_to = on.file_to;
        rank_from = omega arith;
        rank_to = omega arith;
      };
      reached = inr (inr (inl (same_square (square a.file 7) (along 1 south a) (omega arith) (omega arith))));
      sum = inr (omega arith);
    },
    λ i. a.file,
  )
]

-- ---- shades

odd_apart : (m n : ℕ) → n ≡ m + 1 → (m % 2 == 0) ≡ (n % 2 == 0) → ⊥
odd_apart m n more same = grind (arith, nat_tests)

pub other_shade : (a b : Square) → (b.file + b.rank ≡ a.file + a.rank + 1) ⊎ (a.file + a.rank ≡ b.file + b.rank + 1) →
    is_dark a ≡ is_dark b → ⊥
other_shade a b (inl more) same = odd_apart (a.file + a.rank) (b.file + b.rank) more same
other_shade a b (inr less) same = odd_apart (b.file + b.rank) (a.file + a.rank) less (sym same)

even_apart : (m n : ℕ) → n % 2 ≡ m % 2 → (n % 2 == 0) ≡ (m % 2 == 0)
even_apart m n same = ap (λ (x : ℕ). x == 0) same

up_right : (n : ℕ) (a b : Square) → IsOnBoard b → b ≡ along n north_east a →
    (b.file + b.rank) % 2 ≡ (a.file + a.rank) % 2
up_right n a b on there = omega (arith, ap (λ (s : Square). s.file) there, ap (λ (s : Square). s.rank) there)

down_right : (n : ℕ) (a b : Square) → IsOnBoard b → b ≡ along n south_east a →
    (b.file + b.rank) % 2 ≡ (a.file + a.rank) % 2
down_right n a b on there = omega (arith, ap (λ (s : Square). s.file) there, ap (λ (s : Square). s.rank) there)

down_left : (n : ℕ) (a b : Square) → IsOnBoard b → b ≡ along n south_west a →
    (b.file + b.rank) % 2 ≡ (a.file + a.rank) % 2
down_left n a b on there = omega (arith, ap (λ (s : Square). s.file) there, ap (λ (s : Square). s.rank) there)

up_left : (n : ℕ) (a b : Square) → IsOnBoard b → b ≡ along n north_west a →
    (b.file + b.rank) % 2 ≡ (a.file + a.rank) % 2
up_left n a b on there = omega (arith, ap (λ (s : Square). s.file) there, ap (λ (s : Square). s.rank) there)

-- a bishop stays on squares of one shade
pub diagonal_shade : (occupied : List Bool) (a b : Square) → IsOnBoard b → Slides occupied diagonal a b →
    is_dark b ≡ is_dark a
diagonal_shade occupied a b on (inl slide) =
    even_apart (a.file + a.rank) (b.file + b.rank) (up_right slide.distance a b on slide.there)
diagonal_shade occupied a b on (inr (inl slide)) =
    even_apart (a.file + a.rank) (b.file + b.rank) (down_right slide.distance a b on slide.there)
diagonal_shade occupied a b on (inr (inr (inl slide))) =
    even_apart (a.file + a.rank) (b.file + b.rank) (down_left slide.distance a b on slide.there)
diagonal_shade occupied a b on (inr (inr (inr (inl slide)))) =
    even_apart (a.file + a.rank) (b.file + b.rank) (up_left slide.distance a b on slide.there)
diagonal_shade occupied a b on (inr (inr (inr (inr none)))) = absurd none

-- a knight leaves them
odd_sum : (a b : Square) → IsOnBoard a → IsOnBoard b → Reaches knight_steps a b →
    (a.file + a.rank + b.file + b.rank) % 2 ≡ 1
odd_sum a b on_a on_b reached = grind arith

parted : (m n : ℕ) → (m + n) % 2 ≡ 1 → (n % 2 == 0) ≡ not (m % 2 == 0)
parted m n odd = grind (arith, nat_tests)

pub knight_shade : (a b : Square) → IsOnBoard a → IsOnBoard b → Reaches knight_steps a b → is_dark b ≡ not (is_dark a)
knight_shade a b on_a on_b reached =
    let odd = odd_sum a b on_a on_b reached in
    parted (a.file + a.rank) (b.file + b.rank) (omega arith)
