use Rattle.std.specs.Prelude.{ℕ, ◌≡◌, ◌+◌, ◌-◌, ◌<◌, ◌≤◌, ◌⊎◌, Bool, false, ◌&&◌, ◌||◌, not, List, [], ◌∷◌, ◌++◌, map}
use Rattle.std.specs.Bool.{Decides}
use Rattle.std.specs.List.{list_any, list_all, range_with_len}
use Rattle.std.proofs.Common.{arith, ap, sym, subst, inl, inr, zero, suc, refl}
use Rattle.std.proofs.lemmas.Bool.{false≢true, cases_eq, not-true, not_from_false}
use Rattle.std.proofs.lemmas.Bool.Decides.{Decides-and, Decides-or, Decides-not, Decides-like}
use Rattle.chess_bits.specs.declared.men.Colour.{Colour}
use Rattle.chess_bits.specs.declared.men.Kind.{Kind}
use Rattle.chess_bits.specs.declared.men.Kind.TheVariants.{Pawn, Knight, Bishop, Rook, Queen, King}
use Rattle.chess_bits.specs.Square.{Square, IsOnBoard, is_square, number_of, square_at, squares}
use Rattle.chess_bits.specs.Table.{has}
use Rattle.chess_bits.specs.Attack.{Step, along, north, east, south, west, north_east, south_east, south_west, north_west, straight, diagonal, adjoining, knight_steps, pawn_attacks, SomeOf, Reaches, SlidesAlong, Slides, Attacks, reaches, is_clear, slides_along, slides, attacks}
use Rattle.chess_bits.proofs.TableLemmas.{Decides-is_square, number_of-below, square_at-number_of, IsOnBoard-square_at}

-- The tests of `Attack` decide its relations, on the board.

-- `Decides-and` and the like, with the tests left out
pub and_decides : {P Q : Type 0} {x y : Bool} → Decides x P → Decides y Q → Decides (x && y) (P × Q)
and_decides {P} {Q} {x} {y} d e = Decides-and x y d e

pub or_decides : {P Q : Type 0} {x y : Bool} → Decides x P → Decides y Q → Decides (x || y) (P ⊎ Q)
or_decides {P} {Q} {x} {y} d e = Decides-or x y d e

pub not_decides : {P : Type 0} {x : Bool} → Decides x P → Decides (not x) (¬ P)
not_decides {P} {x} d = Decides-not x d

pub like_decides : {P Q : Type 0} {x : Bool} → (P → Q) → (Q → P) → Decides x P → Decides x Q
like_decides {P} {Q} {x} to from d = Decides-like x to from d

-- Lists.

-- a test decides a fact of each item of a list
abbrev pub EachDecides : {A : Type 0} → (A → Bool) → (A → Type 0) → List A → Type 0
EachDecides test P [] = Unit {0}
EachDecides test P (x ∷ xs) = Decides (test x) (P x) × EachDecides test P xs

pub each_decides : {A : Type 0} (test : A → Bool) (P : A → Type 0) → ((x : A) → Decides (test x) (P x)) →
    (xs : List A) → EachDecides test P xs
each_decides test P decides [] = tt
each_decides test P decides (x ∷ xs) = (decides x, each_decides test P decides xs)

pub Decides-some_of : {A : Type 0} (test : A → Bool) (P : A → Type 0) (xs : List A) → EachDecides test P xs →
    Decides (list_any test xs) (SomeOf P xs)
Decides-some_of test P [] each = (λ e. false≢true e, λ none. absurd none)
Decides-some_of test P (x ∷ xs) each = or_decides each.0 (Decides-some_of test P xs each.1)

-- Some number, or each, from a on below a + n.

first_or_rest : (P : ℕ → Type 0) (a n : ℕ) →
    P a ⊎ ((k : ℕ) × (a + 1 ≤ k) × (k < a + 1 + n) × P k) → (k : ℕ) × (a ≤ k) × (k < a + suc n) × P k
first_or_rest P a n (inl here) = (a, omega arith, omega arith, here)
first_or_rest P a n (inr later) = (later.0, omega arith, omega arith, later.3)

is_first_or_rest : (P : ℕ → Type 0) (a n k : ℕ) → a ≤ k → k < a + suc n → P k →
    P a ⊎ ((k : ℕ) × (a + 1 ≤ k) × (k < a + 1 + n) × P k)
is_first_or_rest P a n k from below here = elim (cases_eq k a) [
  | inl e ↦ inl (subst P e here)
  | inr other ↦ inr (k, omega arith, omega arith, here)
]

pub Decides-some_from : (test : ℕ → Bool) (P : ℕ → Type 0) (a n : ℕ) →
    ((k : ℕ) → a ≤ k → k < a + n → Decides (test k) (P k)) →
    Decides (list_any test (range_with_len a n)) ((k : ℕ) × (a ≤ k) × (k < a + n) × P k)
Decides-some_from test P a zero decides = (λ e. absurd (false≢true e), λ some. absurd (omega arith))
Decides-some_from test P a (suc n) decides =
    let rest = Decides-some_from test P (a + 1) n (λ k from below. decides k (omega arith) (omega arith)) in
    like_decides (first_or_rest P a n) (λ some. is_first_or_rest P a n some.0 some.1 some.2 some.3)
    (or_decides (decides a (omega arith) (omega arith)) rest)

each_from_first : (P : ℕ → Type 0) (a n : ℕ) → P a → ((k : ℕ) → a + 1 ≤ k → k < a + 1 + n → P k) →
    (k : ℕ) → a ≤ k → k < a + suc n → P k
each_from_first P a n here later k from below = elim (cases_eq k a) [
  | inl e ↦ subst P (sym e) here
  | inr other ↦ later k (omega arith) (omega arith)
]

pub Decides-each_from : (test : ℕ → Bool) (P : ℕ → Type 0) (a n : ℕ) →
    ((k : ℕ) → a ≤ k → k < a + n → Decides (test k) (P k)) →
    Decides (list_all test (range_with_len a n)) ((k : ℕ) → a ≤ k → k < a + n → P k)
Decides-each_from test P a zero decides = (λ _ k from below. absurd (omega arith), λ _. refl)
Decides-each_from test P a (suc n) decides =
    let rest = Decides-each_from test P (a + 1) n (λ k from below. decides k (omega arith) (omega arith)) in
    like_decides (λ h. each_from_first P a n h.0 h.1)
    (λ each. (each a (omega arith) (omega arith), λ k from below. each k (omega arith) (omega arith)))
    (and_decides (decides a (omega arith) (omega arith)) rest)

-- Some square of the board, and each.

pub list_any-map : {A B : Type 0} (test : B → Bool) (f : A → B) (xs : List A) →
    list_any test (map f xs) ≡ list_any (λ x. test (f x)) xs
list_any-map test f [] = refl
list_any-map test f (x ∷ xs) = ap (λ rest. test (f x) || rest) (list_any-map test f xs)

pub list_all-map : {A B : Type 0} (test : B → Bool) (f : A → B) (xs : List A) →
    list_all test (map f xs) ≡ list_all (λ x. test (f x)) xs
list_all-map test f [] = refl
list_all-map test f (x ∷ xs) = ap (λ rest. test (f x) && rest) (list_all-map test f xs)

at_number : (P : Square → Type 0) (s : Square) → IsOnBoard s → P s → P (square_at (number_of s))
at_number P s on here = subst P (sym (square_at-number_of s on)) here

pub Decides-some_square : (test : Square → Bool) (P : Square → Type 0) →
    ((s : Square) → IsOnBoard s → Decides (test s) (P s)) →
    Decides (list_any test squares) ((s : Square) × IsOnBoard s × P s)
unfolding squares
Decides-some_square test P decides =
    let numbers = Decides-some_from (λ n. test (square_at n)) (λ n. P (square_at n)) 0 64
    (λ k _ below. decides (square_at k) (IsOnBoard-square_at k (omega arith))) in
    rw (list_any-map test square_at (range_with_len 0 64))
    (like_decides
    (λ some. (square_at some.0, IsOnBoard-square_at some.0 (omega arith), some.3))
    (λ some. (
      number_of some.0,
      omega arith,
      omega (arith, number_of-below some.0 some.1),
      at_number P some.0 some.1 some.2,
    ))
    numbers)

pub Decides-each_square : (test : Square → Bool) (P : Square → Type 0) →
    ((s : Square) → IsOnBoard s → Decides (test s) (P s)) →
    Decides (list_all test squares) ((s : Square) → IsOnBoard s → P s)
unfolding squares
Decides-each_square test P decides =
    let numbers = Decides-each_from (λ n. test (square_at n)) (λ n. P (square_at n)) 0 64
    (λ k _ below. decides (square_at k) (IsOnBoard-square_at k (omega arith))) in
    rw (list_all-map test square_at (range_with_len 0 64))
    (like_decides
    (λ each s on. subst P (square_at-number_of s on)
    (each (number_of s) (omega arith) (omega (arith, number_of-below s on))))
    (λ each k _ below. each (square_at k) (IsOnBoard-square_at k (omega arith)))
    numbers)

-- Steps.

pub Decides-reaches : (steps : List Step) (a b : Square) → Decides (reaches steps a b) (Reaches steps a b)
Decides-reaches steps a b =
    let each = each_decides (λ step. is_square b (along 1 step a)) (λ step. b ≡ along 1 step a)
    (λ step. Decides-is_square b (along 1 step a)) steps in
    Decides-some_of (λ step. is_square b (along 1 step a)) (λ step. b ≡ along 1 step a) steps each

-- Slides.

pub Decides-is_false : (b : Bool) → Decides (not b) (b ≡ false)
Decides-is_false b = (not-true b, not_from_false b)

-- the squares before the n-th are empty
abbrev IsClear : List Bool → Square → Step → ℕ → Type 0
IsClear occupied a direction n = (k : ℕ) → 1 ≤ k → k < n → has occupied (along k direction a) ≡ false

Decides-is_clear : (occupied : List Bool) (a : Square) (direction : Step) (n : ℕ) →
    Decides (is_clear occupied a direction n) (IsClear occupied a direction n)
Decides-is_clear occupied a direction n =
    like_decides (λ each k from below. each k from (omega arith)) (λ each k from below. each k from (omega arith))
    (Decides-each_from (λ k. not (has occupied (along k direction a))) (λ k. has occupied (along k direction a) ≡ false)
    1 (n - 1) (λ k _ _. Decides-is_false (has occupied (along k direction a))))

-- b lies at most seven steps off in the direction, where it lies there
abbrev IsNear : Square → Square → Step → Type 0
IsNear a b direction = (n : ℕ) → b ≡ along n direction a → n ≤ 7

slide_is_near : (occupied : List Bool) (a b : Square) (direction : Step) → IsNear a b direction →
    (s : SlidesAlong occupied a b direction) → s.distance < 1 + 7
slide_is_near occupied a b direction near s = omega (arith, near s.distance s.there)

Decides-slides_along : (occupied : List Bool) (a b : Square) (direction : Step) → IsNear a b direction →
    Decides (slides_along occupied a b direction) (SlidesAlong occupied a b direction)
Decides-slides_along occupied a b direction near =
    let some = Decides-some_from (λ n. is_square b (along n direction a) && is_clear occupied a direction n)
    (λ n. (b ≡ along n direction a) × IsClear occupied a direction n) 1 7
    (λ n _ _. and_decides (Decides-is_square b (along n direction a)) (Decides-is_clear occupied a direction n)) in
    like_decides
    (λ h. record { distance = h.0; positive = h.1; there = h.3.0; between_empty = h.3.1 })
    (λ s. (s.distance, s.positive, slide_is_near occupied a b direction near s, (s.there, s.between_empty)))
    some

pub same_file : (a b : Square) → a ≡ b → a.file ≡ b.file
same_file a b e = ap (λ (s : Square). s.file) e

pub same_rank : (a b : Square) → a ≡ b → a.rank ≡ b.rank
same_rank a b e = ap (λ (s : Square). s.rank) e

near-north : (a b : Square) → IsOnBoard a → IsOnBoard b → IsNear a b north
near-north a b on_a on_b n e = omega (arith, same_rank b (along n north a) e)

near-east : (a b : Square) → IsOnBoard a → IsOnBoard b → IsNear a b east
near-east a b on_a on_b n e = omega (arith, same_file b (along n east a) e)

near-south : (a b : Square) → IsOnBoard a → IsOnBoard b → IsNear a b south
near-south a b on_a on_b n e = omega (arith, same_rank b (along n south a) e)

near-west : (a b : Square) → IsOnBoard a → IsOnBoard b → IsNear a b west
near-west a b on_a on_b n e = omega (arith, same_file b (along n west a) e)

near-north_east : (a b : Square) → IsOnBoard a → IsOnBoard b → IsNear a b north_east
near-north_east a b on_a on_b n e = omega (arith, same_file b (along n north_east a) e)

near-south_east : (a b : Square) → IsOnBoard a → IsOnBoard b → IsNear a b south_east
near-south_east a b on_a on_b n e = omega (arith, same_file b (along n south_east a) e)

near-south_west : (a b : Square) → IsOnBoard a → IsOnBoard b → IsNear a b south_west
near-south_west a b on_a on_b n e = omega (arith, same_file b (along n south_west a) e)

near-north_west : (a b : Square) → IsOnBoard a → IsOnBoard b → IsNear a b north_west
near-north_west a b on_a on_b n e = omega (arith, same_file b (along n north_west a) e)

-- each direction of a list is near
abbrev AreNear : Square → Square → List Step → Type 0
AreNear a b [] = Unit {0}
AreNear a b (direction ∷ directions) = IsNear a b direction × AreNear a b directions

each_slides : (occupied : List Bool) (a b : Square) (directions : List Step) → AreNear a b directions →
    EachDecides (slides_along occupied a b) (SlidesAlong occupied a b) directions
each_slides occupied a b [] near = tt
each_slides occupied a b (direction ∷ directions) near =
    (Decides-slides_along occupied a b direction near.0, each_slides occupied a b directions near.1)

Decides-slides : (occupied : List Bool) (directions : List Step) (a b : Square) → AreNear a b directions →
    Decides (slides occupied directions a b) (Slides occupied directions a b)
Decides-slides occupied directions a b near =
    Decides-some_of (slides_along occupied a b) (SlidesAlong occupied a b) directions
    (each_slides occupied a b directions near)

near-straight : (a b : Square) → IsOnBoard a → IsOnBoard b → AreNear a b straight
near-straight a b on_a on_b = (
  near-north a b on_a on_b,
  (
    near-east a b on_a on_b,
    (near-south a b on_a on_b, (near-west a b on_a on_b, tt)),
  ),
)

near-diagonal : (a b : Square) → IsOnBoard a → IsOnBoard b → AreNear a b diagonal
near-diagonal a b on_a on_b = (
  near-north_east a b on_a on_b,
  (
    near-south_east a b on_a on_b,
    (near-south_west a b on_a on_b, (near-north_west a b on_a on_b, tt)),
  ),
)

near-append : (a b : Square) (xs ys : List Step) → AreNear a b xs → AreNear a b ys → AreNear a b (xs ++ ys)
near-append a b [] ys near_x near_y = near_y
near-append a b (x ∷ xs) ys near_x near_y = (near_x.0, near-append a b xs ys near_x.1 near_y)

near-adjoining : (a b : Square) → IsOnBoard a → IsOnBoard b → AreNear a b adjoining
near-adjoining a b on_a on_b =
    near-append a b straight diagonal (near-straight a b on_a on_b) (near-diagonal a b on_a on_b)

pub Decides-attacks : (occupied : List Bool) (colour : Colour) (kind : Kind) (a b : Square) →
    IsOnBoard a → IsOnBoard b → Decides (attacks occupied colour kind a b) (Attacks occupied colour kind a b)
Decides-attacks occupied colour Pawn a b on_a on_b = Decides-reaches (pawn_attacks colour) a b
Decides-attacks occupied colour Knight a b on_a on_b = Decides-reaches knight_steps a b
Decides-attacks occupied colour Bishop a b on_a on_b =
    Decides-slides occupied diagonal a b (near-diagonal a b on_a on_b)
Decides-attacks occupied colour Rook a b on_a on_b =
    Decides-slides occupied straight a b (near-straight a b on_a on_b)
Decides-attacks occupied colour Queen a b on_a on_b =
    Decides-slides occupied adjoining a b (near-adjoining a b on_a on_b)
Decides-attacks occupied colour King a b on_a on_b = Decides-reaches adjoining a b
