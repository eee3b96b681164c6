-- What a set of squares has.
use Rattle.std.proofs.Common.{ℕ, zero, suc, ◌≡◌, ◌+◌, ◌-◌, ◌*◌, ◌^◌, ◌<◌, ◌≤◌, Bool, true, false, not, eqb, ◌||◌, ◌&&◌, List, [], ◌∷◌, Some, None, length, get_or, map, refl, ap, sym, subst, ◌∙◌, inl, inr, arith}
use Rattle.std.specs.Prelude.{◌⊎◌}
use Rattle.std.specs.Int.{bit_at}
use Rattle.std.specs.Int.Count.{count_leading_zeros}
use Rattle.std.specs.List.{filter, range_with_len}
use Rattle.std.proofs.lemmas.Bool.{false≢true, cases_Bool, cases_eq, cases_lt, and_right, or_cases, or_left, or_right, false_from_ne_true}
use Rattle.std.proofs.lemmas.Option.{same_Some}
use Rattle.std.proofs.lemmas.Nat.{leading_top}
use Rattle.std.proofs.lemmas.Nat.Bits.{bit_at_above, bit_at_cat_high}
use Rattle.std.proofs.lemmas.List.{get_or_past}
use Rattle.chess_bits.specs.Square.{Square, IsOnBoard, on_board, number_of, square_at, number_of-square_at}
use Rattle.chess_bits.specs.Table.{has, each, union, meet, without, members, head_of, IsSetOf, IsGreatest}
use Rattle.chess_bits.specs.Word.{bools_of}
use Rattle.chess_bits.specs.Attack.{SomeOf}
use Rattle.chess_bits.proofs.TableLemmas.{at-on_board, at-off_board, at-square_at, number_of-below, IsOnBoard-square_at, IsOnBoard-from_test, on_board-true}
use Rattle.chess_bits.proofs.WordLemmas.{bit, get_or-bools_of, length-each, get_or-each}
use Rattle.chess_bits.proofs.MemberLemmas.{filter-here, filter-not_here, numbers_in, members-numbers}
use Rattle.chess_bits.proofs.AlongLemmas.{SomeOf-members}

-- ---- words

-- a square is in a word's set where its bit is 1
pub has-bools_of : (w : ℕ) (s : Square) → IsOnBoard s → has (bools_of 64 w) s ≡ bit w (number_of s)
has-bools_of w s on =
    at-on_board false (bools_of 64 w) s on ∙ get_or-bools_of 64 w (number_of s) (number_of-below s on)

top_bit : (w j : ℕ) → 2 ^ j ≤ w → w < 2 ^ suc j → bit_at w j ≡ 1
top_bit w j low high =
    let rest : w - 2 ^ j < 2 ^ j = omega arith in
    let whole : w ≡ 1 * 2 ^ j + (w - 2 ^ j) = omega arith in
    let none : j - j ≡ 0 = omega arith in
    ap (λ (x : ℕ). bit_at x j) whole ∙ bit_at_cat_high 1 j (w - 2 ^ j) j rest (omega arith)
    ∙ ap (λ (i : ℕ). bit_at 1 i) none

-- the last square of a word's set is that of its highest 1
pub IsGreatest-word : (w : ℕ) (set : List Bool) (s : Square) → 0 < w → w < 2 ^ 64 → bools_of 64 w ≡ set →
    s ≡ square_at (63 - count_leading_zeros 64 w) → IsGreatest set s
IsGreatest-word w set s positive fits shown there =
    let (j, place, low, high) = leading_top 64 w positive fits in
    let number : 63 - count_leading_zeros 64 w ≡ j = omega arith in
    let at_j : square_at j ≡ s = sym (there ∙ ap square_at number) in
    let on : IsOnBoard s = subst IsOnBoard at_j (IsOnBoard-square_at j (omega arith)) in
    let number_s : number_of s ≡ j = ap number_of (sym at_j) ∙ number_of-square_at j in
    record {
      on_board = on;
      member = sym (ap (λ (bs : List Bool). has bs s) shown) ∙ has-bools_of w s on
          ∙ ap (bit w) number_s ∙ ap (λ (x : ℕ). eqb x 1) (top_bit w j low high);
      after = λ q on_q later. sym (ap (λ (bs : List Bool). has bs q) shown) ∙ has-bools_of w q on_q
          ∙ ap (λ (x : ℕ). eqb x 1) (bit_at_above w (suc j) (number_of q) high (omega arith));
    }

-- ---- unions and the like

get_or-meet : (xs ys : List Bool) (i : ℕ) →
    get_or (meet xs ys) i false ≡ (get_or xs i false && get_or ys i false)
unfolding meet
get_or-meet [] ys i = refl
get_or-meet (x ∷ xs) [] zero = sym (and_right x false refl)
get_or-meet (x ∷ xs) [] (suc i) = sym (and_right (get_or xs i false) false refl)
get_or-meet (x ∷ xs) (y ∷ ys) zero = refl
get_or-meet (x ∷ xs) (y ∷ ys) (suc i) = get_or-meet xs ys i

get_or-either : (f : Bool → Bool → Bool) (xs ys : List Bool) (i : ℕ) → f false false ≡ false → length xs ≡ length ys →
    get_or (each f xs ys) i false ≡ f (get_or xs i false) (get_or ys i false)
get_or-either f xs ys i none len = elim (cases_lt i (length xs)) [
  | inl within ↦ get_or-each f xs ys i within (omega arith)
  | inr past ↦
      get_or_past (each f xs ys) i false (rw (length-each f xs ys len) past)
      ∙ sym (ap (λ (x : Bool). f x (get_or ys i false)) (get_or_past xs i false past)
      ∙ ap (f false) (get_or_past ys i false (omega arith)) ∙ none)
]

at_number : (f : Bool → Bool → Bool) (set a b : List Bool) (s : Square) → f false false ≡ false →
    get_or set (number_of s) false ≡ f (get_or a (number_of s) false) (get_or b (number_of s) false) →
    has set s ≡ f (has a s) (has b s)
at_number f set a b s none e = elim (cases_Bool (on_board s)) [
  | inl on' ↦
      let on = IsOnBoard-from_test s on' in
      at-on_board false set s on ∙ e
      ∙ sym (ap (λ (x : Bool). f x (has b s)) (at-on_board false a s on)
      ∙ ap (f (get_or a (number_of s) false)) (at-on_board false b s on))
  | inr off' ↦
      let off : (IsOnBoard s → ⊥) = λ (on : IsOnBoard s). false≢true (sym off' ∙ on_board-true s on) in
      at-off_board false set s off
      ∙ sym (ap (λ (x : Bool). f x (has b s)) (at-off_board false a s off)
      ∙ ap (f false) (at-off_board false b s off) ∙ none)
]

pub has-meet : (a b : List Bool) (s : Square) → has (meet a b) s ≡ (has a s && has b s)
has-meet a b s = at_number (λ x y. x && y) (meet a b) a b s refl (get_or-meet a b (number_of s))

pub has-union : (a b : List Bool) (s : Square) → length a ≡ length b → has (union a b) s ≡ (has a s || has b s)
unfolding union
has-union a b s len =
    at_number (λ x y. x || y) (union a b) a b s refl (get_or-either (λ x y. x || y) a b (number_of s) refl len)

pub has-without : (a b : List Bool) (s : Square) → length a ≡ length b →
    has (without a b) s ≡ (has a s && not (has b s))
unfolding without
has-without a b s len =
    at_number (λ x y. x && not y) (without a b) a b s refl
    (get_or-either (λ x y. x && not y) a b (number_of s) refl len)

pub length-union : (a b : List Bool) → length a ≡ length b → length (union a b) ≡ length a
unfolding union
length-union a b len = length-each (λ x y. x || y) a b len

pub length-without : (a b : List Bool) → length a ≡ length b → length (without a b) ≡ length a
unfolding without
length-without a b len = length-each (λ x y. x && not y) a b len

pub length-meet : (a b : List Bool) → length a ≡ length b → length (meet a b) ≡ length a
unfolding meet
length-meet a b len = length-each (λ x y. x && y) a b len

-- the union of the sets of the squares that are so, and so
pub IsSetOf-union : (a b : List Bool) (P Q : Square → Type 0) → IsSetOf a P → IsSetOf b Q →
    IsSetOf (union a b) (λ s. P s ⊎ Q s)
IsSetOf-union a b P Q of_a of_b =
    let len : length a ≡ length b = of_a.whole ∙ sym of_b.whole in
    record {
      whole = length-union a b len ∙ of_a.whole;
      exact = λ s on. (
        (λ here. elim (or_cases (has a s) (has b s) (sym (has-union a b s len) ∙ here)) [
          | inl in_a ↦ inl ((of_a.exact s on).0 in_a)
          | inr in_b ↦ inr ((of_b.exact s on).0 in_b)
        ]),
        (λ some. has-union a b s len ∙ elim some [
          | inl p ↦ or_left (has a s) (has b s) ((of_a.exact s on).1 p)
          | inr q ↦ or_right (has a s) (has b s) ((of_b.exact s on).1 q)
        ]),
      );
    }

-- a set of the squares that are so is that of squares that are so in other words
pub IsSetOf-like : (set : List Bool) (P Q : Square → Type 0) → IsSetOf set P →
    ((s : Square) → IsOnBoard s → P s → Q s) → ((s : Square) → IsOnBoard s → Q s → P s) → IsSetOf set Q
IsSetOf-like set P Q of to from = record {
  whole = of.whole;
  exact = λ s on. ((λ here. to s on ((of.exact s on).0 here)), (λ q. (of.exact s on).1 (from s on q)));
}

-- ---- the first and the last square of a set

-- the square of a set with the least number
pub record IsLeast (set : List Bool) (s : Square) : Type 0 where
  pub on_board : IsOnBoard s
  pub member : has set s ≡ true
  pub before : (q : Square) → IsOnBoard q → number_of q < number_of s → has set q ≡ false

-- a number that passes, and none before it does
record IsFirstNumber (p : ℕ → Bool) (a n t : ℕ) : Type 0 where
  from : a ≤ t
  below : t < a + n
  passes : p t ≡ true
  before : (i : ℕ) → a ≤ i → i < t → p i ≡ false

first_number : (p : ℕ → Bool) (a n t : ℕ) → Some t ≡ head_of (filter p (range_with_len a n)) → IsFirstNumber p a n t
first_number p a zero t e = absurd (cc)
first_number p a (suc n) t e = elim (cases_Bool (p a)) [
  | inl here ↦
      let head : Some t ≡ Some a = e ∙ ap head_of (filter-here p a (range_with_len (a + 1) n) here) in
      let same : t ≡ a = same_Some t a head in
      record {
        from = omega arith;
        below = omega arith;
        passes = ap p same ∙ here;
        before = λ i h k. absurd (omega arith);
      }
  | inr not_here ↦
      let rest = first_number p (a + 1) n t
      (e ∙ ap head_of (filter-not_here p a (range_with_len (a + 1) n) not_here)) in
      record {
        from = omega (arith, rest.from);
        below = omega (arith, rest.below);
        passes = rest.passes;
        before = λ i h k. elim (cases_eq i a) [
          | inl same ↦ ap p same ∙ not_here
          | inr other ↦ rest.before i (omega arith) k
        ];
      }
]

first_square : (ns : List ℕ) (s : Square) → Some s ≡ head_of (map square_at ns) →
    (t : ℕ) × (Some t ≡ head_of ns) × (s ≡ square_at t)
first_square [] s e = absurd (cc)
first_square (n ∷ ns) s e = (n, refl, same_Some s (square_at n) e)

pub IsLeast-first : (set : List Bool) (s : Square) → Some s ≡ head_of (members set) → IsLeast set s
IsLeast-first set s e =
    let (t, head, there) = first_square (numbers_in set) s (e ∙ ap head_of (members-numbers set)) in
    let first = first_number (λ i. get_or set i false) 0 64 t head in
    let below : t < 64 = omega (arith, first.below) in
    let number : number_of s ≡ t = ap number_of there ∙ number_of-square_at t in
    record {
      on_board = subst IsOnBoard (sym there) (IsOnBoard-square_at t below);
      member = ap (has set) there ∙ at-square_at false set t below ∙ first.passes;
      before = λ q on earlier. at-on_board false set q on ∙ first.before (number_of q) (omega arith) (omega arith);
    }

-- a set without members has no square
pub has-none : (set : List Bool) (s : Square) → IsOnBoard s → members set ≡ [] → has set s ≡ false
has-none set s on none =
    false_from_ne_true (has set s) (λ here.
    let Some' : List Square → Type 0 = SomeOf (λ _. Unit {0}) in
    subst Some' none (SomeOf-members (λ _. Unit {0}) set s on here tt))

-- a list without a first is empty
pub no_head : (ms : List Square) → None ≡ head_of ms → ms ≡ []
no_head [] e = refl
no_head (m ∷ ms) e = absurd (cc)
