use Rattle.std.proofs.Common.{◌≡◌, Bool, true, false, cond, ◌||◌, List, [], ◌∷◌, length, get_or, map, replicate, refl, ap, sym, ◌∙◌, inl, inr, ◌⊎◌, arith, Option, Some, None, is_some}
use Rattle.std.specs.List.{range_with_len}
use Rattle.std.proofs.lemmas.Bool.{cases_Bool}
use Rattle.std.proofs.lemmas.List.{length-map}
use Rattle.std.proofs.lemmas.List.FromFn.{get_or-map-range_with_len, length-range_with_len}
use Rattle.chess_bits.specs.declared.men.Colour.{Colour}
use Rattle.chess_bits.specs.declared.men.Colour.TheVariants.{White, Black}
use Rattle.chess_bits.specs.declared.men.Kind.{Kind}
use Rattle.chess_bits.specs.declared.men.Kind.TheVariants.{Pawn, Knight, Bishop, Rook, Queen, King}
use Rattle.chess_bits.specs.Square.{Square, IsOnBoard, number_of, square_at, squares, is_square}
use Rattle.chess_bits.specs.Man.{Man, is_of, holds}
use Rattle.chess_bits.specs.Table.{at, put, has, each, union, empty}
use Rattle.chess_bits.proofs.TableLemmas.{at-on_board, number_of-below, square_at-number_of, same_table, length-put, at-put, map-put}
use Rattle.chess_board.specs.Occupancy.{squares_with, is_a}
use Rattle.chess_board.specs.Position.{man_at, occupied_of}
use Rattle.chess_board.specs.declared.men.Men.TheInside.{Inside}
use Rattle.chess_board.specs.Men.{kind_on, man_on, placement_of, sets_of, IsConsistent}

map-map : {A B C : Type 0} (f : B → C) (g : A → B) (xs : List A) → map f (map g xs) ≡ map (λ x. f (g x)) xs
map-map f g [] = refl
map-map {C = C} f g (x ∷ xs) = ap (λ (ys : List C). f (g x) ∷ ys) (map-map f g xs)

pub map-same : {A B : Type 0} (f g : A → B) → ((x : A) → f x ≡ g x) → (xs : List A) → map f xs ≡ map g xs
map-same f g same [] = refl
map-same {B = B} f g same (x ∷ xs) = ap (λ (y : B). y ∷ map f xs) (same x) ∙ ap (λ (ys : List B). g x ∷ ys)
    (map-same f g same xs)

pub each-map : {A : Type 0} (op : Bool → Bool → Bool) (f g : A → Bool) (xs : List A) → each op (map f xs)
    (map g xs) ≡ map (λ x. op (f x) (g x)) xs
each-map op f g [] = refl
each-map op f g (x ∷ xs) = ap (λ (ys : List Bool). op (f x) (g x) ∷ ys) (each-map op f g xs)

-- a map made of a function of the square
pub at-squares : {A : Type 0} (none : A) (f : Square → A) (s : Square) → IsOnBoard s → at none (map f squares) s ≡ f s
unfolding squares
at-squares none f s on =
    at-on_board none (map f (map square_at (range_with_len 0 64))) s on
    ∙ ap (λ (xs : List _). get_or xs (number_of s) none) (map-map f square_at (range_with_len 0 64))
    ∙ get_or-map-range_with_len (λ n. f (square_at n)) 0 64 (number_of s)
    (number_of s) none (number_of-below s on) (omega arith)
    ∙ ap f (square_at-number_of s on)

pub length-squares : {A : Type 0} (f : Square → A) → length (map f squares) ≡ 64
unfolding squares
length-squares f = length-map (map square_at (range_with_len 0 64)) f
    ∙ length-map (range_with_len 0 64) square_at ∙ length-range_with_len 0 64

pub length-placement_of : (sets : Inside) → length (placement_of sets) ≡ 64
unfolding placement_of
length-placement_of sets = length-squares (man_on sets)

pub man_at-placement_of : (sets : Inside) (s : Square) → IsOnBoard s → man_at (placement_of sets) s ≡ man_on sets s
unfolding placement_of
man_at-placement_of sets s on = at-squares None (man_on sets) s on

-- the man of a colour and a kind that the sets tell
pub man_on-told : (sets : Inside) (s : Square) (colour : Colour) (kind : Kind) →
    ((true ≡ has sets.white s) × (colour ≡ White)) ⊎ ((false ≡ has sets.white s) × (true ≡ has sets.black s) ×
    (colour ≡ Black)) →
    kind ≡ kind_on sets s → Some (colour, kind) ≡ man_on sets s
unfolding man_on
man_on-told sets s colour k (inl w) e = rw (w.1, e, ← w.0) refl
man_on-told sets s colour k (inr w) e = rw (w.2, e, ← w.0, ← w.1) refl

pub man_on-none : (sets : Inside) (s : Square) → false ≡ has sets.white s → false ≡ has sets.black s →
    None ≡ man_on sets s
unfolding man_on
man_on-none sets s white black = rw (← white, ← black) refl

abbrev pub colour_set : Colour → Inside → List Bool
colour_set White sets = sets.white
colour_set Black sets = sets.black

abbrev pub kind_set : Kind → Inside → List Bool
kind_set Pawn sets = sets.pawns
kind_set Knight sets = sets.knights
kind_set Bishop sets = sets.bishops
kind_set Rook sets = sets.rooks
kind_set Queen sets = sets.queens
kind_set King sets = sets.kings

-- each set is that of the placement
pub squares_with-colour : (colour : Colour) (sets : Inside) → IsConsistent sets →
    squares_with (is_of colour) (placement_of sets) ≡ colour_set colour sets
unfolding sets_of
squares_with-colour White sets h = ap (colour_set White) h
squares_with-colour Black sets h = ap (colour_set Black) h

pub squares_with-kind : (kind : Kind) (sets : Inside) → IsConsistent sets →
    squares_with (is_a kind) (placement_of sets) ≡ kind_set kind sets
unfolding sets_of
squares_with-kind Pawn sets h = ap (kind_set Pawn) h
squares_with-kind Knight sets h = ap (kind_set Knight) h
squares_with-kind Bishop sets h = ap (kind_set Bishop) h
squares_with-kind Rook sets h = ap (kind_set Rook) h
squares_with-kind Queen sets h = ap (kind_set Queen) h
squares_with-kind King sets h = ap (kind_set King) h

either_colour : (here : Option Man) → (holds (is_of White) here || holds (is_of Black) here) ≡ is_some here
either_colour None = refl
either_colour (Some (White, _)) = refl
either_colour (Some (Black, _)) = refl

-- a man is white or black
pub union-colours : (placement : List (Option Man)) → union (squares_with (is_of White) placement)
    (squares_with (is_of Black) placement) ≡ occupied_of placement
unfolding union
union-colours placement =
    each-map (λ x y. x || y) (holds (is_of White)) (holds (is_of Black)) placement
    ∙ map-same (λ here. holds (is_of White) here || holds (is_of Black) here) is_some either_colour placement

-- the sets after a man, or none, is put onto a square
abbrev pub sets_put : Inside → Square → Option Man → Inside
sets_put sets s here = record {
  white = put sets.white s (holds (is_of White) here);
  black = put sets.black s (holds (is_of Black) here);
  pawns = put sets.pawns s (holds (is_a Pawn) here);
  knights = put sets.knights s (holds (is_a Knight) here);
  bishops = put sets.bishops s (holds (is_a Bishop) here);
  rooks = put sets.rooks s (holds (is_a Rook) here);
  queens = put sets.queens s (holds (is_a Queen) here);
  kings = put sets.kings s (holds (is_a King) here);
}

-- what two squares' sets tell alike, they tell as one man
pub man_on-same : (a b : Inside) (s q : Square) → has a.white s ≡ has b.white q →
    has a.black s ≡ has b.black q → has a.pawns s ≡ has b.pawns q →
    has a.knights s ≡ has b.knights q → has a.bishops s ≡ has b.bishops q → has a.rooks s ≡ has b.rooks q →
    has a.queens s ≡ has b.queens q → man_on a s ≡ man_on b q
unfolding man_on
man_on-same a b s q white black pawns knights bishops rooks queens = rw (
  white,
  black,
  pawns,
  knights,
  bishops,
  rooks,
  queens,
) refl

abbrev kind_told : Option Man → Kind
kind_told x =
    cond (holds (is_a Pawn) x) Pawn (cond (holds (is_a Knight) x) Knight (cond (holds (is_a Bishop) x) Bishop
    (cond (holds (is_a Rook) x) Rook (cond (holds (is_a Queen) x) Queen King))))

-- sets that show a man at a square, or none, tell it
pub man_on-shown : (a : Inside) (s : Square) (here : Option Man) → has a.white s ≡ holds (is_of White) here →
    has a.black s ≡ holds (is_of Black) here →
    has a.pawns s ≡ holds (is_a Pawn) here → has a.knights s ≡ holds (is_a Knight) here →
    has a.bishops s ≡ holds (is_a Bishop) here →
    has a.rooks s ≡ holds (is_a Rook) here → has a.queens s ≡ holds (is_a Queen) here → man_on a s ≡ here
unfolding man_on
man_on-shown a s here white black pawns knights bishops rooks queens = rw (
  white,
  black,
  pawns,
  knights,
  bishops,
  rooks,
  queens,
) (told here)
  where
    told : (x : Option Man) →
        cond (holds (is_of White) x) (Some (White, kind_told x)) (cond (holds (is_of Black) x)
        (Some (Black, kind_told x)) None) ≡ x
    told None = refl
    told (Some (White, Pawn)) = refl
    told (Some (White, Knight)) = refl
    told (Some (White, Bishop)) = refl
    told (Some (White, Rook)) = refl
    told (Some (White, Queen)) = refl
    told (Some (White, King)) = refl
    told (Some (Black, Pawn)) = refl
    told (Some (Black, Knight)) = refl
    told (Some (Black, Bishop)) = refl
    told (Some (Black, Rook)) = refl
    told (Some (Black, Queen)) = refl
    told (Some (Black, King)) = refl

set_at : (bits : List Bool) (s q : Square) (b : Bool) → length bits ≡ 64 → IsOnBoard s →
    has (put bits s b) q ≡ cond (is_square q s) b (has bits q)
set_at bits s q b len on_s = at-put false bits s q b len on_s

pub length-squares_with : (is : Man → Bool) (sets : Inside) (bits : List Bool) →
    squares_with is (placement_of sets) ≡ bits → length bits ≡ 64
length-squares_with is sets bits e = ap length (sym e) ∙ length-map (placement_of sets) (holds is)
    ∙ length-placement_of sets

chosen : (t : Bool) (b x y : Bool) → t ≡ true → y ≡ cond t b x → y ≡ b
chosen t b x y h e = e ∙ ap (λ (u : Bool). cond u b x) h

kept : (t : Bool) (b x y : Bool) → t ≡ false → y ≡ cond t b x → y ≡ x
kept t b x y h e = e ∙ ap (λ (u : Bool). cond u b x) h

man_on-sets_put : (sets : Inside) (s q : Square) (here : Option Man) → IsConsistent sets → IsOnBoard s → IsOnBoard q →
    man_on (sets_put sets s here) q ≡ cond (is_square q s) here (man_on sets q)
man_on-sets_put sets s q here h on_s on_q =
    let white = set_at sets.white s q (holds (is_of White) here)
    (length-squares_with _ sets _ (squares_with-colour White sets h)) on_s in
    let black = set_at sets.black s q (holds (is_of Black) here)
    (length-squares_with _ sets _ (squares_with-colour Black sets h)) on_s in
    let pawns = set_at sets.pawns s q (holds (is_a Pawn) here)
    (length-squares_with _ sets _ (squares_with-kind Pawn sets h)) on_s in
    let knights = set_at sets.knights s q (holds (is_a Knight) here)
    (length-squares_with _ sets _ (squares_with-kind Knight sets h)) on_s in
    let bishops = set_at sets.bishops s q (holds (is_a Bishop) here)
    (length-squares_with _ sets _ (squares_with-kind Bishop sets h)) on_s in
    let rooks = set_at sets.rooks s q (holds (is_a Rook) here)
    (length-squares_with _ sets _ (squares_with-kind Rook sets h)) on_s in
    let queens = set_at sets.queens s q (holds (is_a Queen) here)
    (length-squares_with _ sets _ (squares_with-kind Queen sets h)) on_s in
    elim (cases_Bool (is_square q s)) [
      | inl same ↦
          man_on-shown (sets_put sets s here) q here (chosen _ _ _ _ same white) (chosen _ _ _ _ same black)
          (chosen _ _ _ _ same pawns)
          (chosen _ _ _ _ same knights) (chosen _ _ _ _ same bishops) (chosen _ _ _ _ same rooks)
          (chosen _ _ _ _ same queens)
          ∙ sym (ap (λ (t : Bool). cond t here (man_on sets q)) same)
      | inr other ↦
          man_on-same (sets_put sets s here) sets q q (kept _ _ _ _ other white) (kept _ _ _ _ other black)
          (kept _ _ _ _ other pawns)
          (kept _ _ _ _ other knights) (kept _ _ _ _ other bishops) (kept _ _ _ _ other rooks)
          (kept _ _ _ _ other queens)
          ∙ sym (ap (λ (t : Bool). cond t here (man_on sets q)) other)
    ]

-- the placement after a man is put
pub placement_of-sets_put : (sets : Inside) (s : Square) (here : Option Man) → IsConsistent sets → IsOnBoard s →
    placement_of (sets_put sets s here) ≡ put (placement_of sets) s here
placement_of-sets_put sets s here h on =
    same_table None (placement_of (sets_put sets s here)) (put (placement_of sets) s here)
    (length-placement_of (sets_put sets s here)) (length-put (placement_of sets) s here ∙ length-placement_of sets)
    (λ q on_q.
    man_at-placement_of (sets_put sets s here) q on_q ∙ man_on-sets_put sets s q here h on on_q
    ∙ sym (at-put None (placement_of sets) s q here (length-placement_of sets) on
    ∙ ap (cond (is_square q s) here) (man_at-placement_of sets q on_q)))

one : (is : Man → Bool) (sets : Inside) (s : Square) (here : Option Man) (bits : List Bool) →
    squares_with is (placement_of sets) ≡ bits →
    squares_with is (put (placement_of sets) s here) ≡ put bits s (holds is here)
one is sets s here bits e = map-put (holds is) (placement_of sets) s here
    ∙ ap (λ (x : List Bool). put x s (holds is here)) e

-- and its sets are those
pub IsConsistent-sets_put : (sets : Inside) (s : Square) (here : Option Man) → IsConsistent sets →
    IsOnBoard s → IsConsistent (sets_put sets s here)
unfolding sets_of
IsConsistent-sets_put sets s here h on =
    ap sets_of (placement_of-sets_put sets s here h on)
    ∙ (λ i. record {
      white = one (is_of White) sets s here _ (squares_with-colour White sets h) i;
      black = one (is_of Black) sets s here _ (squares_with-colour Black sets h) i;
      pawns = one (is_a Pawn) sets s here _ (squares_with-kind Pawn sets h) i;
      knights = one (is_a Knight) sets s here _ (squares_with-kind Knight sets h) i;
      bishops = one (is_a Bishop) sets s here _ (squares_with-kind Bishop sets h) i;
      rooks = one (is_a Rook) sets s here _ (squares_with-kind Rook sets h) i;
      queens = one (is_a Queen) sets s here _ (squares_with-kind Queen sets h) i;
      kings = one (is_a King) sets s here _ (squares_with-kind King sets h) i;
    })

-- the sets of the empty board
abbrev pub no_sets : Inside
no_sets = record {
  white = empty;
  black = empty;
  pawns = empty;
  knights = empty;
  bishops = empty;
  rooks = empty;
  queens = empty;
  kings = empty;
}

pub placement_of-no_sets : placement_of no_sets ≡ replicate 64 None
unfolding placement_of man_on squares at empty
placement_of-no_sets = refl

pub IsConsistent-no_sets : IsConsistent no_sets
unfolding sets_of empty
IsConsistent-no_sets = ap sets_of placement_of-no_sets
