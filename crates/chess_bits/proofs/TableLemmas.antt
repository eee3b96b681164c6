use Rattle.std.specs.Prelude.{ℕ, ◌≡◌, ◌≢◌, ◌+◌, ◌<◌, ◌≤◌, Bool, true, false, cond, ◌==◌, List, map, length, count_by}
use Rattle.std.specs.Bool.{Decides}
use Rattle.std.proofs.Common.{arith, inl, inr, ap, ◌∙◌, sym, suc, add-zero, [], ◌∷◌, get_or, set, take, drop}
use Rattle.std.proofs.lemmas.Bool.{and_parts, and_from, eqb-true, eq-eqb, cases_Bool, cases_lt, cases_order, false_from_ne_true, cond-true, cond-false}
use Rattle.std.proofs.lemmas.Bool.Decides.{nat_tests}
use Rattle.std.proofs.lemmas.List.{length-set, length-map, get_or-set_same, get_or-set_other, get_or_past, ext_get_or, map-set, set_comm, get_or-map, get_or-take, get_or-drop, length-take-le, length-drop}
use Rattle.std.proofs.lemmas.List.Sums.{sum_by-set, get_or-le-sum_by, sum_by-take-drop, sum_by-cons}
use Rattle.chess_bits.specs.Square.{Square, IsOnBoard, on_board, is_square, number_of, square_at, number_of-square_at}
use Rattle.chess_bits.specs.Table.{at, put}

-- Squares.

-- squares with the same file and rank are one
pub same_square : (a b : Square) → a.file ≡ b.file → a.rank ≡ b.rank → a ≡ b
same_square a b file rank =
    ap (λ (n : ℕ). let s : Square = record { file = n; rank = a.rank } in s) file ∙
    ap (λ (n : ℕ). let s : Square = record { file = b.file; rank = n } in s) rank

pub is_square-true : (a b : Square) → is_square a b ≡ true → a ≡ b
is_square-true a b e =
    let both = and_parts (a.file == b.file) (a.rank == b.rank) e in
    same_square a b (eqb-true a.file b.file both.0) (eqb-true a.rank b.rank both.1)

pub is_square-same : (a b : Square) → a ≡ b → is_square a b ≡ true
is_square-same a b e =
    and_from (a.file == b.file) (a.rank == b.rank)
    (eq-eqb a.file b.file (ap (λ (s : Square). s.file) e)) (eq-eqb a.rank b.rank (ap (λ (s : Square). s.rank) e))

pub Decides-is_square : (a b : Square) → Decides (is_square a b) (a ≡ b)
Decides-is_square a b = (is_square-true a b, is_square-same a b)

pub is_square-other : (a b : Square) → a ≢ b → is_square a b ≡ false
is_square-other a b other = false_from_ne_true (is_square a b) (λ e. other (is_square-true a b e))

pub is_square-false : (a b : Square) → is_square a b ≡ false → a ≢ b
is_square-false a b e same = grind (arith, is_square-same a b same)

pub IsOnBoard-from_test : (s : Square) → on_board s ≡ true → IsOnBoard s
IsOnBoard-from_test s e = record {
  file_from = grind (arith, nat_tests);
  file_to = grind (arith, nat_tests);
  rank_from = grind (arith, nat_tests);
  rank_to = grind (arith, nat_tests);
}

pub on_board-true : (s : Square) → IsOnBoard s → on_board s ≡ true
on_board-true s on = grind (arith, nat_tests)

pub Decides-on_board : (s : Square) → Decides (on_board s) (IsOnBoard s)
Decides-on_board s = (IsOnBoard-from_test s, on_board-true s)

pub on_board-false : (s : Square) → (IsOnBoard s → ⊥) → on_board s ≡ false
on_board-false s off = false_from_ne_true (on_board s) (λ e. off (IsOnBoard-from_test s e))

pub number_of-below : (s : Square) → IsOnBoard s → number_of s < 64
number_of-below s on = omega arith

pub square_at-number_of : (s : Square) → IsOnBoard s → square_at (number_of s) ≡ s
square_at-number_of s on = same_square (square_at (number_of s)) s (omega arith) (omega arith)

pub IsOnBoard-square_at : (n : ℕ) → n < 64 → IsOnBoard (square_at n)
IsOnBoard-square_at n below =
    record { file_from = omega arith; file_to = omega arith; rank_from = omega arith; rank_to = omega arith }

pub number_of-injective : (a b : Square) → IsOnBoard a → IsOnBoard b → number_of a ≡ number_of b → a ≡ b
number_of-injective a b on_a on_b e = same_square a b (omega arith) (omega arith)

-- Tables of any type.

get_or-map_any : {A B : Type 0} (f : A → B) (t : List A) (i : ℕ) (none_a : A) (none_b : B) →
    f none_a ≡ none_b → get_or (map f t) i none_b ≡ f (get_or t i none_a)
get_or-map_any f t i none_a none_b e = elim (cases_lt i (length t)) [
  | inl within ↦ get_or-map f t i none_a none_b within
  | inr past ↦ get_or_past (map f t) i none_b (rw (length-map t f) past) ∙ sym e ∙
      ap f (sym (get_or_past t i none_a past))
]

pub at-on_board : {A : Type 0} (none : A) (t : List A) (s : Square) → IsOnBoard s →
    at none t s ≡ get_or t (number_of s) none
unfolding at
at-on_board none t s on = cond-true (on_board s) (get_or t (number_of s) none) none (on_board-true s on)

pub at-off_board : {A : Type 0} (none : A) (t : List A) (s : Square) → (IsOnBoard s → ⊥) → at none t s ≡ none
unfolding at
at-off_board none t s off = cond-false (on_board s) (get_or t (number_of s) none) none (on_board-false s off)

-- at a square by its number
pub at-square_at : {A : Type 0} (none : A) (t : List A) (n : ℕ) → n < 64 → at none t (square_at n) ≡ get_or t n none
at-square_at none t n below =
    at-on_board none t (square_at n) (IsOnBoard-square_at n below) ∙ ap (λ k. get_or t k none) (number_of-square_at n)

-- a square where a table has another value than off the board is on the board
pub on_board-from_at : {A : Type 0} (none : A) (t : List A) (s : Square) → at none t s ≢ none → IsOnBoard s
on_board-from_at none t s some = elim (cases_Bool (on_board s)) [
  | inl on ↦ IsOnBoard-from_test s on
  | inr off ↦ absurd (some (at-off_board none t s (λ on. grind (arith, on_board-true s on))))
]

pub length-put : {A : Type 0} (t : List A) (s : Square) (x : A) → length (put t s x) ≡ length t
unfolding put
length-put t s x = length-set t (number_of s) x

pub at-put_same : {A : Type 0} (none : A) (t : List A) (s : Square) (x : A) → length t ≡ 64 → IsOnBoard s →
    at none (put t s x) s ≡ x
unfolding put
at-put_same none t s x whole on =
    let below : number_of s < length t = rw whole (number_of-below s on) in
    at-on_board none (set t (number_of s) x) s on ∙ get_or-set_same t (number_of s) x none below

pub at-put_other : {A : Type 0} (none : A) (t : List A) (s q : Square) (x : A) →
    IsOnBoard s → IsOnBoard q → q ≢ s → at none (put t s x) q ≡ at none t q
unfolding put
at-put_other none t s q x on_s on_q other =
    at-on_board none (set t (number_of s) x) q on_q ∙
    get_or-set_other t (number_of s) (number_of q) x none (λ e. other (number_of-injective q s on_q on_s e)) ∙
    sym (at-on_board none t q on_q)

-- the same at any square, as a test
pub at-put : {A : Type 0} (none : A) (t : List A) (s q : Square) (x : A) →
    length t ≡ 64 → IsOnBoard s → at none (put t s x) q ≡ cond (is_square q s) x (at none t q)
at-put none t s q x whole on_s = elim (cases_Bool (is_square q s)) [
  | inl same ↦
      let e : q ≡ s = is_square-true q s same in
      rw (same) (rw e (at-put_same none t s x whole on_s))
  | inr other ↦ elim (cases_Bool (on_board q)) [
    | inl on ↦ rw (other) (at-put_other none t s q x on_s (IsOnBoard-from_test q on) (is_square-false q s other))
    | inr off ↦
        let away : (IsOnBoard q → ⊥) = λ (on : IsOnBoard q). grind (arith, on_board-true q on) in
        rw (other) (at-off_board none (put t s x) q away ∙ sym (at-off_board none t q away))
  ]
]

-- tables that agree on the board are one
pub same_table : {A : Type 0} (none : A) (t u : List A) → length t ≡ 64 → length u ≡ 64 →
    ((s : Square) → IsOnBoard s → at none t s ≡ at none u s) → t ≡ u
same_table none t u whole_t whole_u agree = ext_get_or none t u (whole_t ∙ sym whole_u) (λ i within.
    let below : i < 64 = omega arith in
    sym (at-square_at none t i below) ∙ agree (square_at i) (IsOnBoard-square_at i below) ∙
    at-square_at none u i below)

pub map-put : {A B : Type 0} (f : A → B) (t : List A) (s : Square) (x : A) → map f (put t s x) ≡ put (map f t) s (f x)
unfolding put
map-put f t s x = map-set f t (number_of s) x

pub at-map : {A B : Type 0} (f : A → B) (none_a : A) (none_b : B) (t : List A) (s : Square) →
    f none_a ≡ none_b → at none_b (map f t) s ≡ f (at none_a t s)
at-map f none_a none_b t s e = elim (cases_Bool (on_board s)) [
  | inl on' ↦
      let on = IsOnBoard-from_test s on' in
      at-on_board none_b (map f t) s on ∙ get_or-map_any f t (number_of s) none_a none_b e ∙
      ap f (sym (at-on_board none_a t s on))
  | inr off' ↦
      let off : (IsOnBoard s → ⊥) = λ (on : IsOnBoard s). grind (arith, on_board-true s on) in
      at-off_board none_b (map f t) s off ∙ sym e ∙ ap f (sym (at-off_board none_a t s off))
]

-- Counts.

-- the value put in place of another counts for it
pub count_by-put : {A : Type 0} (p : A → Bool) (none : A) (t : List A) (s : Square) (x : A) → length t ≡ 64 →
    IsOnBoard s →
    count_by p (put t s x) + cond (p (at none t s)) 1 0 ≡ count_by p t + cond (p x) 1 0
unfolding put
count_by-put p none t s x whole on =
    let below : number_of s < length t = rw whole (number_of-below s on) in
    rw (at-on_board none t s on) (sum_by-set (λ y. cond (p y) 1 0) t (number_of s) x none below)

-- a place that passes counts
pub count_by-one : {A : Type 0} (p : A → Bool) (xs : List A) (i : ℕ) (d : A) → i < length xs →
    p (get_or xs i d) ≡ true → 1 ≤ count_by p xs
count_by-one p xs i d within passes =
    let counted : cond (p (get_or xs i d)) 1 0 ≤ count_by p xs =
    get_or-le-sum_by (λ x. cond (p x) 1 0) xs i d within in
    grind (arith, cond-true {A = ℕ} (p (get_or xs i d)) 1 0 passes)

-- two places that pass count twice
pub count_by-two : {A : Type 0} (p : A → Bool) (xs : List A) (i j : ℕ) (d : A) → i < j → j < length xs →
    p (get_or xs i d) ≡ true → p (get_or xs j d) ≡ true → 2 ≤ count_by p xs
count_by-two p xs i j d before within at_i at_j =
    let early : 1 ≤ count_by p (take j xs) =
    count_by-one p (take j xs) i d (omega (arith, length-take-le j xs)) (rw (get_or-take j xs i d before) at_i) in
    let late : 1 ≤ count_by p (drop j xs) =
    count_by-one p (drop j xs) 0 d (omega (arith, length-drop j xs)) (rw (get_or-drop j xs 0 d, add-zero) at_j) in
    omega (arith, sum_by-take-drop (λ x. cond (p x) 1 0) xs j)

found_here : {A : Type 0} (p : A → Bool) (d x : A) (xs : List A) →
    (1 ≤ count_by p xs → (i : ℕ) × (i < length xs) × (p (get_or xs i d) ≡ true)) → 1 ≤ count_by p (x ∷ xs) →
    (i : ℕ) × (i < length (x ∷ xs)) × (p (get_or (x ∷ xs) i d) ≡ true)
found_here p d x xs rest some = elim (cases_Bool (p x)) [
  | inl passes ↦ (0, omega arith, passes)
  | inr fails ↦
      let counted : count_by p (x ∷ xs) ≡ cond (p x) 1 0 + count_by p xs = sum_by-cons (λ y. cond (p y) 1 0) x xs in
      let (i, within, passes) = rest (grind (arith, cond-false {A = ℕ} (p x) 1 0 fails)) in
      (suc i, omega arith, passes)
]

-- some place that counts passes
pub found_from_count_by : {A : Type 0} (p : A → Bool) (d : A) (xs : List A) → 1 ≤ count_by p xs →
    (i : ℕ) × (i < length xs) × (p (get_or xs i d) ≡ true)
found_from_count_by p d [] some = absurd (omega arith)
found_from_count_by p d (x ∷ xs) some = found_here p d x xs (found_from_count_by p d xs) some

same_from_orders : (m n : ℕ) → (m < n → ⊥) → (n < m → ⊥) → m ≡ n
same_from_orders m n before after = elim (cases_order m n) [
  | inl e ↦ e
  | inr order ↦ elim order [ inl b ↦ absurd (before b) | inr a ↦ absurd (after a) ]
]

-- where one counts, squares that pass are one
pub same_from_count_by : {A : Type 0} (p : A → Bool) (none : A) (t : List A) (a b : Square) → length t ≡ 64 →
    IsOnBoard a → IsOnBoard b → count_by p t ≡ 1 → p (at none t a) ≡ true → p (at none t b) ≡ true → a ≡ b
same_from_count_by p none t a b whole on_a on_b one at_a at_b =
    let below_a : number_of a < length t = rw whole (number_of-below a on_a) in
    let below_b : number_of b < length t = rw whole (number_of-below b on_b) in
    let here_a : p (get_or t (number_of a) none) ≡ true = rw (← at-on_board none t a on_a) at_a in
    let here_b : p (get_or t (number_of b) none) ≡ true = rw (← at-on_board none t b on_b) at_b in
    number_of-injective a b on_a on_b (same_from_orders (number_of a) (number_of b)
    (λ before. omega (arith, count_by-two p t (number_of a) (number_of b) none before below_b here_a here_b))
    (λ after. omega (arith, count_by-two p t (number_of b) (number_of a) none after below_a here_b here_a)))

-- what counts stands on some square
pub square_from_count_by : {A : Type 0} (p : A → Bool) (none : A) (t : List A) → length t ≡ 64 → 1 ≤ count_by p t →
    (s : Square) × IsOnBoard s × (p (at none t s) ≡ true)
square_from_count_by p none t whole some =
    let (i, within, passes) = found_from_count_by p none t some in
    let below : i < 64 = omega arith in
    (square_at i, IsOnBoard-square_at i below, rw (at-square_at none t i below) passes)

-- puts on two squares in either order
pub put_comm : {A : Type 0} (t : List A) (a b : Square) (x y : A) → IsOnBoard a → IsOnBoard b → a ≢ b →
    put (put t a x) b y ≡ put (put t b y) a x
unfolding put
put_comm t a b x y on_a on_b apart =
    set_comm t (number_of a) (number_of b) x y (λ e. apart (number_of-injective a b on_a on_b e))
