-- Two sets tell of a man that is put down or taken away; the others stay.
use Rattle.std.proofs.Common.{ℕ, zero, suc, ◌≡◌, Bool, true, false, not, cond, List, [], ◌∷◌, length, get_or, set, refl, ap, sym, subst, ◌∙◌, inl, inr, Option, None}
use Rattle.std.proofs.lemmas.Bool.{cases_Bool, cases_lt}
use Rattle.std.proofs.lemmas.List.{get_or-set_same, get_or_past, set_past, length-map}
use Rattle.chess_bits.specs.declared.men.Colour.{Colour}
use Rattle.chess_bits.specs.declared.men.Colour.TheVariants.{White, Black}
use Rattle.chess_bits.specs.declared.men.Kind.{Kind}
use Rattle.chess_bits.specs.declared.men.Kind.TheVariants.{Pawn, Knight, Bishop, Rook, Queen, King}
use Rattle.chess_bits.specs.Square.{Square, IsOnBoard, is_square, number_of}
use Rattle.chess_bits.specs.Man.{Man, is_of, is_colour, is_kind, holds}
use Rattle.chess_bits.specs.Table.{at, put, has}
use Rattle.chess_bits.proofs.TableLemmas.{at-on_board, at-put, same_table, length-put, is_square-true}
use Rattle.chess_board.specs.Occupancy.{squares_with, is_a, there_if}
use Rattle.chess_board.specs.Position.{Placement, man_at}
use Rattle.chess_board.specs.Men.{placement_of, IsConsistent}
use Rattle.chess_board.specs.declared.men.Men.TheInside.{Inside}
use Rattle.chess_board.proofs.AttackLemmas.{has-squares_with}
use Rattle.chess_board.proofs.MenLemmas.{sets_put, placement_of-sets_put, IsConsistent-sets_put, length-placement_of, kind_set, squares_with-colour, squares_with-kind}

-- the sets with the colour's changed
abbrev pub colour_sets : Inside → Square → Colour → Bool → Inside
colour_sets sets s colour stands = record sets {
  white = cond (is_colour White colour) (put sets.white s stands) sets.white;
  black = cond (is_colour Black colour) (put sets.black s stands) sets.black;
}

-- and the kind's
abbrev pub both_sets : Inside → Square → Colour → Kind → Bool → Inside
both_sets sets s colour kind stands = record (colour_sets sets s colour stands) {
  pawns = cond (is_kind Pawn kind) (put sets.pawns s stands) sets.pawns;
  knights = cond (is_kind Knight kind) (put sets.knights s stands) sets.knights;
  bishops = cond (is_kind Bishop kind) (put sets.bishops s stands) sets.bishops;
  rooks = cond (is_kind Rook kind) (put sets.rooks s stands) sets.rooks;
  queens = cond (is_kind Queen kind) (put sets.queens s stands) sets.queens;
  kings = cond (is_kind King kind) (put sets.kings s stands) sets.kings;
}

held : (is : Man → Bool) (man : Man) (stands : Bool) → is man ≡ true → stands ≡ holds is (there_if stands man)
held is man true e = sym e
held is man false e = refl

not_held : (is : Man → Bool) (man : Man) (stands : Bool) → is man ≡ false → false ≡ holds is (there_if stands man)
not_held is man true e = sym e
not_held is man false e = refl

-- a table with what it has already
pub put-same : {A : Type 0} (none : A) (t : List A) (s : Square) (x : A) → length t ≡ 64 → IsOnBoard s →
    at none t s ≡ x → put t s x ≡ t
put-same none t s x whole on e =
    same_table none (put t s x) t (length-put t s x ∙ whole) whole
    (λ q on_q. at-put none t s q x whole on ∙ (elim (cases_Bool (is_square q s)) [
      | inl same ↦
          ap (λ b. cond b x (at none t q)) same ∙ sym e ∙ ap (at none t) (sym (is_square-true q s same))
      | inr other ↦ ap (λ b. cond b x (at none t q)) other
    ]))

one_set : (is : Man → Bool) (placement : Placement) (bits : List Bool) (s : Square) (man : Man) (stands : Bool) →
    length placement ≡ 64 → squares_with is placement ≡ bits → IsOnBoard s →
    man_at placement s ≡ there_if (not stands) man →
    cond (is man) (put bits s stands) bits ≡ put bits s (holds is (there_if stands man))
one_set is placement bits s man stands whole shown on here = elim (cases_Bool (is man)) [
  | inl tells ↦
      ap (λ b. cond b (put bits s stands) bits) tells ∙ ap (put bits s) (held is man stands tells)
  | inr silent ↦
      let len : length bits ≡ 64 = ap length (sym shown) ∙ length-map placement (holds is) ∙ whole in
      let none : has bits s ≡ false =
      ap (λ (bs : List Bool). has bs s) (sym shown) ∙ has-squares_with is placement s ∙ ap (holds is) here
      ∙ sym (not_held is man (not stands) silent) in
      ap (λ b. cond b (put bits s stands) bits) silent ∙ sym (put-same false bits s false len on none)
      ∙ ap (put bits s) (not_held is man stands silent)
]

-- the changed sets are those of the man put onto the square
pub both_sets-put : (sets : Inside) (s : Square) (colour : Colour) (kind : Kind) (stands : Bool) →
    IsConsistent sets → IsOnBoard s → man_at (placement_of sets) s ≡ there_if (not stands) (colour, kind) →
    both_sets sets s colour kind stands ≡ sets_put sets s (there_if stands (colour, kind))
both_sets-put sets s colour kind stands consistent on here =
    let man : Man = (colour, kind) in
    let one : (is : Man → Bool) (bits : List Bool) → squares_with is (placement_of sets) ≡ bits →
    cond (is man) (put bits s stands) bits ≡ put bits s (holds is (there_if stands man)) =
    λ is bits shown. one_set is (placement_of sets) bits s man stands (length-placement_of sets) shown on here in
    λ i. record {
      white = one (is_of White) sets.white (squares_with-colour White sets consistent) i;
      black = one (is_of Black) sets.black (squares_with-colour Black sets consistent) i;
      pawns = one (is_a Pawn) sets.pawns (squares_with-kind Pawn sets consistent) i;
      knights = one (is_a Knight) sets.knights (squares_with-kind Knight sets consistent) i;
      bishops = one (is_a Bishop) sets.bishops (squares_with-kind Bishop sets consistent) i;
      rooks = one (is_a Rook) sets.rooks (squares_with-kind Rook sets consistent) i;
      queens = one (is_a Queen) sets.queens (squares_with-kind Queen sets consistent) i;
      kings = one (is_a King) sets.kings (squares_with-kind King sets consistent) i;
    }

-- What holds of sets that are the changed ones.
pub record IsAssigned (old new : Inside) (s : Square) (colour : Colour) (kind : Kind) (stands : Bool) : Type 0 where
  pub same : new ≡ both_sets old s colour kind stands

pub IsConsistent-assigned : (old new : Inside) (s : Square) (colour : Colour) (kind : Kind) (stands : Bool)
    (now : Placement) → IsConsistent old → IsOnBoard s → placement_of old ≡ now →
    man_at now s ≡ there_if (not stands) (colour, kind) → IsAssigned old new s colour kind stands → IsConsistent new
IsConsistent-assigned old new s colour kind stands now consistent on view here assigned =
    let there : man_at (placement_of old) s ≡ there_if (not stands) (colour, kind) =
    ap (λ (p : Placement). man_at p s) view ∙ here in
    let is : new ≡ sets_put old s (there_if stands (colour, kind)) =
    assigned.same ∙ both_sets-put old s colour kind stands consistent on there in
    subst IsConsistent (sym is) (IsConsistent-sets_put old s (there_if stands (colour, kind)) consistent on)

pub placement_of-assigned : (old new : Inside) (s : Square) (colour : Colour) (kind : Kind) (stands : Bool)
    (now : Placement) → IsConsistent old → IsOnBoard s → placement_of old ≡ now →
    man_at now s ≡ there_if (not stands) (colour, kind) → IsAssigned old new s colour kind stands →
    placement_of new ≡ put now s (there_if stands (colour, kind))
placement_of-assigned old new s colour kind stands now consistent on view here assigned =
    let man : Option Man = there_if stands (colour, kind) in
    let there : man_at (placement_of old) s ≡ there_if (not stands) (colour, kind) =
    ap (λ (p : Placement). man_at p s) view ∙ here in
    ap placement_of (assigned.same ∙ both_sets-put old s colour kind stands consistent on there)
    ∙ placement_of-sets_put old s man consistent on ∙ ap (λ (p : Placement). put p s man) view

-- the colour's set
pub white_set : (sets mid : Inside) (s : Square) (colour : Colour) (stands : Bool) (new : List Bool) →
    colour ≡ White → new ≡ put sets.white s stands → mid ≡ record sets { white = new } →
    mid ≡ colour_sets sets s colour stands
white_set sets mid s colour stands new is assigned made =
    made ∙ ap (λ (bits : List Bool). let m : Inside = record sets { white = bits } in m) assigned
    ∙ ap (λ (c : Colour). colour_sets sets s c stands) (sym is)

pub black_set : (sets mid : Inside) (s : Square) (colour : Colour) (stands : Bool) (new : List Bool) →
    colour ≡ Black → new ≡ put sets.black s stands → mid ≡ record sets { black = new } →
    mid ≡ colour_sets sets s colour stands
black_set sets mid s colour stands new is assigned made =
    made ∙ ap (λ (bits : List Bool). let m : Inside = record sets { black = bits } in m) assigned
    ∙ ap (λ (c : Colour). colour_sets sets s c stands) (sym is)

abbrev pub with_kind_set : Inside → Kind → List Bool → Inside
with_kind_set sets Pawn bits = record sets { pawns = bits }
with_kind_set sets Knight bits = record sets { knights = bits }
with_kind_set sets Bishop bits = record sets { bishops = bits }
with_kind_set sets Rook bits = record sets { rooks = bits }
with_kind_set sets Queen bits = record sets { queens = bits }
with_kind_set sets King bits = record sets { kings = bits }

with_both : (sets : Inside) (s : Square) (colour : Colour) (kind : Kind) (stands : Bool) →
    with_kind_set (colour_sets sets s colour stands) kind
    (put (kind_set kind (colour_sets sets s colour stands)) s stands)
    ≡ both_sets sets s colour kind stands
with_both sets s colour Pawn stands = refl
with_both sets s colour Knight stands = refl
with_both sets s colour Bishop stands = refl
with_both sets s colour Rook stands = refl
with_both sets s colour Queen stands = refl
with_both sets s colour King stands = refl

-- and then the kind's
pub IsAssigned-kind : (sets mid : Inside) (s : Square) (colour : Colour) (kind one : Kind) (stands : Bool)
    (new : List Bool) → kind ≡ one → mid ≡ colour_sets sets s colour stands → new ≡ put (kind_set one mid) s stands →
    IsAssigned sets (with_kind_set mid one new) s colour kind stands
IsAssigned-kind sets mid s colour k one stands new is coloured assigned = record {
  same = ap (with_kind_set mid one) assigned
      ∙ ap (λ (m : Inside). with_kind_set m one (put (kind_set one m) s stands)) coloured
      ∙ with_both sets s colour one stands
      ∙ ap (λ (own : Kind). both_sets sets s colour own stands) (sym is);
}

-- a square that is emptied is empty
pub man_at-emptied : (t : Placement) (s : Square) → IsOnBoard s → man_at (put t s None) s ≡ None
unfolding put
man_at-emptied t s on = at-on_board None (set t (number_of s) None) s on ∙ (elim (cases_lt (number_of s) (length t)) [
  | inl within ↦ get_or-set_same t (number_of s) None None within
  | inr past ↦
      ap (λ (x : Placement). get_or x (number_of s) None) (set_past t (number_of s) None past)
      ∙ get_or_past t (number_of s) None past
])

set-held : (t : Placement) (n : ℕ) → set t n (get_or t n None) ≡ t
set-held [] n = refl
set-held (x ∷ xs) zero = refl
set-held (x ∷ xs) (suc n) = ap (λ (ys : Placement). x ∷ ys) (set-held xs n)

set-twice : (t : Placement) (n : ℕ) (a b : Option Man) → set (set t n a) n b ≡ set t n b
set-twice [] n a b = refl
set-twice (x ∷ xs) zero a b = refl
set-twice (x ∷ xs) (suc n) a b = ap (λ (ys : Placement). x ∷ ys) (set-twice xs n a b)

-- an empty square emptied
pub put-empty : (t : Placement) (s : Square) → IsOnBoard s → man_at t s ≡ None → put t s None ≡ t
unfolding put
put-empty t s on here =
    ap (set t (number_of s)) (sym here ∙ at-on_board None t s on) ∙ set-held t (number_of s)

-- a square emptied before a man is put onto it
pub put-twice : (t : Placement) (s : Square) (a b : Option Man) → put (put t s a) s b ≡ put t s b
unfolding put
put-twice t s a b = set-twice t (number_of s) a b
