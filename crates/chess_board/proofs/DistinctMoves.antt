-- No move stands twice in `legal_moves_of`.
use Rattle.std.specs.Prelude.{ℕ, ◌≡◌, ◌≢◌, ◌⊎◌, ◌<◌, Bool, List, [], ◌∷◌, ◌++◌, length, filter, flat_map, Contains, slice_index_or, Option, Some, None}
use Rattle.std.specs.List.{AllPairs}
use Rattle.std.proofs.Common.{arith, sym, ap, ◌∙◌, inl, inr, refl, zero, suc}
use Rattle.std.proofs.lemmas.Bool.{cases_Bool}
use Rattle.std.proofs.lemmas.List.Elements.{Contains-append_cases}
use Rattle.std.proofs.lemmas.List.Kept.{AllPairs-cons}
use Rattle.std.proofs.lemmas.List.FromFn.{get_or-map-range_with_len}
use Rattle.chess_bits.specs.declared.men.Kind.{Kind}
use Rattle.chess_bits.specs.declared.men.Kind.TheVariants.{Queen, Rook, Bishop, Knight}
use Rattle.chess_bits.specs.Square.{Square, number_of, square_at, number_of-square_at, squares}
use Rattle.chess_bits.proofs.MemberLemmas.{filter-here, filter-not_here}
use Rattle.chess_bits.proofs.AlongLemmas.{length-all_squares}
use Rattle.chess_board.specs.declared.moves.Move.{Move}
use Rattle.chess_board.specs.Position.{Position}
use Rattle.chess_board.specs.Computing.{holds_colour, is_legal, moves_between, moves_from, legal_moves_of}

-- ---- items of a list

pub Contains-here : {A : Type 0} (x y : A) (ys : List A) → y ≡ x → Contains (y ∷ ys) x
Contains-here x y ys e = (0, omega arith, e)

pub Contains-later : {A : Type 0} (x y : A) (ys : List A) → Contains ys x → Contains (y ∷ ys) x
Contains-later x y ys here = (suc here.0, omega (arith, here.1), here.2)

cons_at : {A : Type 0} (x y : A) (ys : List A) (k : ℕ) → k < length (y ∷ ys) → slice_index_or (y ∷ ys) k x ≡ x →
    (y ≡ x) ⊎ Contains ys x
cons_at x y ys zero below e = inl e
cons_at x y ys (suc k) below e = inr (k, omega arith, e)

pub Contains-cases : {A : Type 0} (x y : A) (ys : List A) → Contains (y ∷ ys) x → (y ≡ x) ⊎ Contains ys x
Contains-cases x y ys here = cons_at x y ys here.0 here.1 here.2

pub Contains-none : {A : Type 0} (x : A) → ¬ Contains [] x
Contains-none x here = absurd (omega (arith, here.1))

pub Contains-filter_from : {A : Type 0} (test : A → Bool) (xs : List A) (x : A) → Contains (filter test xs) x →
    Contains xs x
Contains-filter_from test [] x here = here
Contains-filter_from test (y ∷ ys) x here = elim (cases_Bool (test y)) [
  | inl kept ↦ elim (Contains-cases x y (filter test ys) (rw (filter-here test y ys kept) at here)) [
    | inl e ↦ Contains-here x y ys e
    | inr later ↦ Contains-later x y ys (Contains-filter_from test ys x later)
  ]
  | inr left ↦
      Contains-later x y ys (Contains-filter_from test ys x (rw (filter-not_here test y ys left) at here))
]

-- ---- lists without repetition

-- no item stands again later
abbrev pub IsApart : {A : Type 0} → List A → Type 0
IsApart [] = Unit {0}
IsApart (x ∷ xs) = (¬ Contains xs x) × IsApart xs

pub IsApart-append : {A : Type 0} (xs ys : List A) → IsApart xs → IsApart ys →
    ((x : A) → Contains xs x → ¬ Contains ys x) → IsApart (xs ++ ys)
IsApart-append [] ys apart_x apart_y none = apart_y
IsApart-append (x ∷ xs) ys apart_x apart_y none = (
  λ here. elim (Contains-append_cases xs ys x here) [
    | inl front ↦ apart_x.0 front
    | inr back ↦ none x (Contains-here x x xs refl) back
  ],
  IsApart-append xs ys apart_x.1 apart_y (λ z here. none z (Contains-later z x xs here)),
)

pub IsApart-filter : {A : Type 0} (test : A → Bool) (xs : List A) → IsApart xs → IsApart (filter test xs)
IsApart-filter test [] apart = tt
IsApart-filter test (x ∷ xs) apart = elim (cases_Bool (test x)) [
  | inl kept ↦ rw (filter-here test x xs kept)
      (λ here. apart.0 (Contains-filter_from test xs x here), IsApart-filter test xs apart.1)
  | inr left ↦ rw (filter-not_here test x xs left) (IsApart-filter test xs apart.1)
]

-- each item of a part shows what the part was made of
abbrev pub IsTag : {A B : Type 0} → (B → A) → (A → List B) → Type 0
IsTag {A} {B} tag f = (x : A) (y : B) → Contains (f x) y → tag y ≡ x

pub Contains-tag : {A B : Type 0} (tag : B → A) (f : A → List B) (xs : List A) (y : B) → IsTag tag f →
    Contains (flat_map f xs) y → Contains xs (tag y)
Contains-tag tag f [] y tags here = absurd (Contains-none y here)
Contains-tag tag f (x ∷ xs) y tags here = elim (Contains-append_cases (f x) (flat_map f xs) y here) [
  | inl front ↦ Contains-here (tag y) x xs (sym (tags x y front))
  | inr back ↦ Contains-later (tag y) x xs (Contains-tag tag f xs y tags back)
]

pub IsApart-flat_map : {A B : Type 0} (tag : B → A) (f : A → List B) (xs : List A) → IsTag tag f →
    ((x : A) → IsApart (f x)) → IsApart xs → IsApart (flat_map f xs)
IsApart-flat_map tag f [] tags each apart = tt
IsApart-flat_map {A = A} {B = B} tag f (x ∷ xs) tags each apart =
    IsApart-append (f x) (flat_map f xs) (each x) (IsApart-flat_map tag f xs tags each apart.1)
    (λ y front back. apart.0 (tag_there y (tags x y front) (Contains-tag tag f xs y tags back)))
  where
    tag_there : (y : B) → tag y ≡ x → Contains xs (tag y) → Contains xs x
    tag_there y e here = rw e at here

pub IsApart-from_pairs : {A : Type 0} (xs : List A) → AllPairs (λ x y. x ≢ y) xs → IsApart xs
IsApart-from_pairs [] pairs = tt
IsApart-from_pairs (x ∷ xs) pairs = (
  λ here. pairs 0 (suc here.0) x (omega arith) (omega (arith, here.1)) (sym here.2),
  IsApart-from_pairs xs (λ i j d before within. pairs (suc i) (suc j) d (omega arith) (omega arith)),
)

any_default : {A : Type 0} (xs : List A) (k : ℕ) (d e : A) → k < length xs →
    slice_index_or xs k d ≡ slice_index_or xs k e
any_default [] k d e below = absurd (omega arith)
any_default (x ∷ xs) zero d e below = refl
any_default (x ∷ xs) (suc k) d e below = any_default xs k d e (omega arith)

pub AllPairs-from_apart : {A : Type 0} (xs : List A) → IsApart xs → AllPairs (λ x y. x ≢ y) xs
AllPairs-from_apart [] apart = λ i j d before within. absurd (omega arith)
AllPairs-from_apart (x ∷ xs) apart =
    AllPairs-cons (λ a b. a ≢ b) x xs
    (λ k d below e. apart.0 (k, below, any_default xs k x d below ∙ sym e))
    (AllPairs-from_apart xs apart.1)

-- ---- the squares, and the moves between them

square_there : (i : ℕ) (d : Square) → i < 64 → slice_index_or squares i d ≡ square_at i
unfolding squares
square_there i d below = get_or-map-range_with_len square_at 0 64 i i d below (omega arith)

pub IsApart-squares : IsApart squares
IsApart-squares = IsApart-from_pairs squares (λ i j d before within e.
    let below : j < 64 = omega (arith, length-all_squares) in
    let same : square_at i ≡ square_at j = sym (square_there i d (omega arith)) ∙ e ∙ square_there j d below in
    let numbers : i ≡ j = sym (number_of-square_at i) ∙ ap number_of same ∙ number_of-square_at j in
    absurd (omega arith))

another : {A : Type 0} (x y : A) (ys : List A) → y ≢ x → ¬ Contains ys x → ¬ Contains (y ∷ ys) x
another x y ys other rest here = elim (Contains-cases x y ys here) [
  | inl e ↦ other e
  | inr later ↦ rest later
]

abbrev promoted : Square → Square → Option Kind → Move
promoted from to promotion = record { from = from; to = to; promotion = promotion }

other_move : (from to : Square) (a b : Option Kind) → a ≢ b → promoted from to a ≢ promoted from to b
other_move from to a b other e = other (ap (λ (m : Move). m.promotion) e)

IsApart-moves_between : (from to : Square) → IsApart (moves_between from to)
IsApart-moves_between from to =
    let m : Option Kind → Move = promoted from to in
    let knight : List Move = m (Some Knight) ∷ [] in
    let bishop : List Move = m (Some Bishop) ∷ knight in
    let rook : List Move = m (Some Rook) ∷ bishop in
    let none = λ (x : Move). Contains-none x in (
      another (m None) (m (Some Queen)) rook (other_move from to (Some Queen) None (λ e. absurd (cc)))
          (another (m None) (m (Some Rook)) bishop (other_move from to (Some Rook) None (λ e. absurd (cc)))
          (another (m None) (m (Some Bishop)) knight (other_move from to (Some Bishop) None (λ e. absurd (cc)))
          (another (m None) (m (Some Knight)) [] (other_move from to (Some Knight) None (λ e. absurd (cc)))
          (none (m None))))),
      (
        another (m (Some Queen)) (m (Some Rook)) bishop
            (other_move from to (Some Rook) (Some Queen) (λ e. absurd (cc)))
            (another (m (Some Queen)) (m (Some Bishop)) knight
            (other_move from to (Some Bishop) (Some Queen) (λ e. absurd (cc)))
            (another (m (Some Queen)) (m (Some Knight)) []
            (other_move from to (Some Knight) (Some Queen) (λ e. absurd (cc))) (none (m (Some Queen))))),
        (
          another (m (Some Rook)) (m (Some Bishop)) knight
              (other_move from to (Some Bishop) (Some Rook) (λ e. absurd (cc)))
              (another (m (Some Rook)) (m (Some Knight)) []
              (other_move from to (Some Knight) (Some Rook) (λ e. absurd (cc))) (none (m (Some Rook)))),
          (
            another (m (Some Bishop)) (m (Some Knight)) []
                (other_move from to (Some Knight) (Some Bishop) (λ e. absurd (cc))) (none (m (Some Bishop))),
            (none (m (Some Knight)), tt),
          ),
        ),
      ),
    )

-- a move from a square to another is one of the five
pub moves_between-cases : (from to : Square) (m : Move) → Contains (moves_between from to) m →
    (promotion : Option Kind) × (promoted from to promotion ≡ m)
moves_between-cases from to m here =
    let at : Option Kind → Move = promoted from to in
    let knight : List Move = at (Some Knight) ∷ [] in
    let bishop : List Move = at (Some Bishop) ∷ knight in
    let rook : List Move = at (Some Rook) ∷ bishop in
    elim (Contains-cases m (at None) (at (Some Queen) ∷ rook) here) [
      | inl e ↦ (None, e)
      | inr more ↦ elim (Contains-cases m (at (Some Queen)) rook more) [
        | inl e ↦ (Some Queen, e)
        | inr more' ↦ elim (Contains-cases m (at (Some Rook)) bishop more') [
          | inl e ↦ (Some Rook, e)
          | inr more'' ↦ elim (Contains-cases m (at (Some Bishop)) knight more'') [
            | inl e ↦ (Some Bishop, e)
            | inr last ↦ elim (Contains-cases m (at (Some Knight)) [] last) [
              | inl e ↦ (Some Knight, e)
              | inr none ↦ absurd (Contains-none m none)
            ]
          ]
        ]
      ]
    ]

to_of_between : (from to : Square) (m : Move) → Contains (moves_between from to) m → m.to ≡ to
to_of_between from to m here = ap (λ (x : Move). x.to) (sym (moves_between-cases from to m here).1)

from_of_between : (from to : Square) (m : Move) → Contains (moves_between from to) m → m.from ≡ from
from_of_between from to m here = ap (λ (x : Move). x.from) (sym (moves_between-cases from to m here).1)

pub from_of_moves : (from : Square) (tos : List Square) (m : Move) → Contains (flat_map (moves_between from) tos) m →
    m.from ≡ from
from_of_moves from [] m here = absurd (Contains-none m here)
from_of_moves from (to ∷ tos) m here =
    elim (Contains-append_cases (moves_between from to) (flat_map (moves_between from) tos) m here) [
      | inl front ↦ from_of_between from to m front
      | inr back ↦ from_of_moves from tos m back
    ]

IsApart-moves_from : (from : Square) → IsApart (moves_from from)
IsApart-moves_from from =
    IsApart-flat_map (λ (m : Move). m.to) (moves_between from) squares (to_of_between from) (IsApart-moves_between from)
    IsApart-squares

-- the legal moves are listed once each
pub legal_moves_of-apart : (p : Position) → IsApart (legal_moves_of p)
legal_moves_of-apart p =
    let own : List Square = filter (λ s. holds_colour p s p.side) squares in
    IsApart-filter (is_legal p) (flat_map moves_from own)
    (IsApart-flat_map (λ (m : Move). m.from) moves_from own (λ from m here. from_of_moves from squares m here)
    IsApart-moves_from (IsApart-filter (λ s. holds_colour p s p.side) squares IsApart-squares))

pub legal_moves_of-distinct : (p : Position) → AllPairs (λ x y. x ≢ y) (legal_moves_of p)
legal_moves_of-distinct p = AllPairs-from_apart (legal_moves_of p) (legal_moves_of-apart p)
