use Rattle.std.specs.Prelude.{◌≡◌, ◌<◌, ◌↔◌, Bool, true, false, ◌||◌, ◌&&◌, not, if◌then◌else◌, List, [], ◌∷◌, length}
use Rattle.std.specs.Prelude.{Option, Some, None, filter, replicate, slice_index_or, slice_set}
use Rattle.chess_bits.specs.Square.{Square, IsOnBoard, on_board, number_of, squares}

-- A finite map from squares is written as the list of its 64 values, by rising number of the square.
-- What it has at a square; off the board it has `none`.
unfoldable pub at : {A : Type 0} → A → List A → Square → A
at none table s = if on_board s then slice_index_or table (number_of s) none else none

-- the same map, but for one square of the board
unfoldable pub put : {A : Type 0} → List A → Square → A → List A
put table s x = slice_set table (number_of s) x

-- a set of squares is the map from squares to whether they are in it
abbrev pub has : List Bool → Square → Bool
has set s = at false set s

unfoldable pub empty : List Bool
empty = replicate 64 false

abbrev pub each : (Bool → Bool → Bool) → List Bool → List Bool → List Bool
each f [] bs = []
each f (a ∷ as') [] = []
each f (a ∷ as') (b ∷ bs) = f a b ∷ each f as' bs

-- the squares in either set, and those in both
unfoldable pub union : List Bool → List Bool → List Bool
union a b = each (λ x y. x || y) a b

unfoldable pub meet : List Bool → List Bool → List Bool
meet a b = each (λ x y. x && y) a b

-- the squares in the first set that are not in the second
unfoldable pub without : List Bool → List Bool → List Bool
without a b = each (λ x y. x && not y) a b

-- the set of exactly the squares of the board that are so
pub record IsSetOf (set : List Bool) (P : Square → Type 0) : Type 0 where
  pub whole : length set ≡ 64
  pub exact : (s : Square) → IsOnBoard s → (has set s ≡ true) ↔ P s

-- the square of a set with the greatest number
pub record IsGreatest (set : List Bool) (s : Square) : Type 0 where
  pub on_board : IsOnBoard s
  pub member : has set s ≡ true
  pub after : (q : Square) → IsOnBoard q → number_of s < number_of q → has set q ≡ false

-- the squares of a set, by rising number
unfoldable pub members : List Bool → List Square
members set = filter (has set) squares

-- the first of a list
abbrev pub head_of : {A : Type 0} → List A → Option A
head_of [] = None
head_of (x ∷ xs) = Some x
