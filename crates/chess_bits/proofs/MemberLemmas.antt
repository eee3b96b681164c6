use Rattle.std.proofs.Common.{ℕ, zero, suc, ◌≡◌, ◌≢◌, ◌+◌, ◌*◌, ◌^◌, ◌<◌, ◌≤◌, Bool, true, false, cond, eqb, List, [], ◌∷◌, length, get_or, set, map, refl, ap, sym, ◌∙◌, inl, inr, arith, Some}
use Rattle.std.proofs.lemmas.Bool.{cases_eq, cases_Bool, cases_lt}
use Rattle.std.proofs.lemmas.List.{get_or-set_same, get_or-set_other, get_or_past, set_past, length-map}
use Rattle.std.proofs.lemmas.List.FromFn.{fill_by_all}
use Rattle.std.proofs.lemmas.List.Sums.{length-filter}
use Rattle.std.proofs.lemmas.Nat.Bits.{bit_at-zero, bit_at-trailing_zeros}
use Rattle.std.proofs.lemmas.Simd.{ones-mask_l}
use Rattle.std.specs.Int.{w64, trailing_zeros}
use Rattle.std.specs.Prelude.{count_ones}
use Rattle.std.specs.List.{range_with_len, filter, count_by, fold}
use lib.Lanes.{mask_l}
use Rattle.chess_bits.specs.Square.{Square, square_at, number_of, number_of-square_at, squares}
use Rattle.chess_bits.specs.Table.{has, put, members, head_of}
use Rattle.chess_bits.specs.Word.{bools_of, word_of, word_of-bools_of}
use Rattle.chess_bits.proofs.TableLemmas.{at-square_at}
use Rattle.chess_bits.proofs.WordLemmas.{length-bools_of, get_or-bools_of}

-- ---- a filter of numbers

pub filter-here : {A : Type 0} (p : A → Bool) (x : A) (xs : List A) → p x ≡ true → filter p (x ∷ xs) ≡ x ∷ filter p xs
filter-here p x xs e = ap (λ (b : Bool). cond b (x ∷ filter p xs) (filter p xs)) e

pub filter-not_here : {A : Type 0} (p : A → Bool) (x : A) (xs : List A) → p x ≡ false → filter p (x ∷ xs) ≡ filter p xs
filter-not_here p x xs e = ap (λ (b : Bool). cond b (x ∷ filter p xs) (filter p xs)) e

-- tests that agree on the numbers keep the same
pub filter_range-same : (p q : ℕ → Bool) (a n : ℕ) → ((i : ℕ) → a ≤ i → i < a + n → p i ≡ q i) →
    filter p (range_with_len a n) ≡ filter q (range_with_len a n)
filter_range-same p q a zero same = refl
filter_range-same p q a (suc n) same =
    ap (λ (b : Bool). cond b (a ∷ filter p (range_with_len (a + 1) n)) (filter p (range_with_len (a + 1) n)))
    (same a (omega arith) (omega arith))
    ∙ ap (λ (rest : List ℕ). cond (q a) (a ∷ rest) rest)
    (filter_range-same p q (a + 1) n (λ i h k. same i (omega arith) (omega arith)))

-- the first number that passes is the head of those that pass
pub filter_range-first : (p : ℕ → Bool) (a n t : ℕ) → a ≤ t → t < a + n → p t ≡ true → ((i : ℕ) → a ≤ i →
    i < t → p i ≡ false) →
    (rest : List ℕ) × (filter p (range_with_len a n) ≡ t ∷ rest)
filter_range-first p a zero t h k passes before = absurd (omega arith)
filter_range-first p a (suc n) t h k passes before =
    elim (cases_eq a t) [
      | inl e ↦ (
        filter p (range_with_len (a + 1) n),
        filter-here p a (range_with_len (a + 1) n) (ap p e ∙ passes)
            ∙ ap (λ (x : ℕ). x ∷ filter p (range_with_len (a + 1) n)) e,
      )
      | inr ne ↦
          let below : a < t = omega arith in
          let more = filter_range-first p (a + 1) n t (omega arith)
          (omega arith) passes (λ i h' k'. before i (omega arith) k') in
          (more.0, filter-not_here p a (range_with_len (a + 1) n) (before a (omega arith) below) ∙ more.1)
    ]

-- no number passes
pub filter_range-none : (p : ℕ → Bool) (a n : ℕ) → ((i : ℕ) → a ≤ i → i < a + n → p i ≡ false) →
    filter p (range_with_len a n) ≡ []
filter_range-none p a zero none = refl
filter_range-none p a (suc n) none =
    filter-not_here p a (range_with_len (a + 1) n) (none a (omega arith) (omega arith))
    ∙ filter_range-none p (a + 1) n (λ i h k. none i (omega arith) (omega arith))

-- without the first number that passed, the others pass
pub filter_range-rest : (p q : ℕ → Bool) (a n t : ℕ) (rest : List ℕ) →
    filter p (range_with_len a n) ≡ t ∷ rest → q t ≡ false → ((i : ℕ) → i ≢ t → q i ≡ p i) →
    filter q (range_with_len a n) ≡ rest
filter_range-rest p q a zero t rest e gone same = cc
filter_range-rest p q a (suc n) t rest e gone same =
    elim (cases_Bool (p a)) [
      | inl here ↦
          let both : a ∷ filter p (range_with_len (a + 1) n) ≡ t ∷ rest = sym (filter-here p a (range_with_len
          (a + 1) n) here) ∙ e in
          let head : a ≡ t = cc in
          let tail : filter p (range_with_len (a + 1) n) ≡ rest = cc in
          filter-not_here q a (range_with_len (a + 1) n) (ap q head ∙ gone)
          ∙ filter_range-same q p (a + 1) n (λ i h k. same i (omega arith)) ∙ tail
      | inr not_here ↦
          let later : filter p (range_with_len (a + 1) n) ≡ t ∷ rest = sym (filter-not_here p a (range_with_len
          (a + 1) n) not_here) ∙ e in
          let not_q : q a ≡ false = elim (cases_eq a t) [
            | inl head ↦ ap q head ∙ gone
            | inr ne ↦ same a ne
                ∙ not_here
          ] in
          filter-not_here q a (range_with_len (a + 1) n) not_q ∙ filter_range-rest p q (a + 1) n t rest later gone same
    ]

pub filter-map : {A B : Type 0} (p : B → Bool) (f : A → B) (xs : List A) →
    filter p (map f xs) ≡ map f (filter (λ x. p (f x)) xs)
filter-map p f [] = refl
filter-map {A = A} {B = B} p f (x ∷ xs) =
    elim (cases_Bool (p (f x))) [
      | inl passes ↦ filter-here p (f x) (map f xs) passes ∙ ap (λ (ys : List B). f x ∷ ys)
          (filter-map p f xs) ∙ ap (map f) (sym (filter-here (λ y. p (f y)) x xs passes))
      | inr fails ↦ filter-not_here p (f x) (map f xs) fails ∙ filter-map p f xs ∙ ap (map f)
          (sym (filter-not_here (λ y. p (f y)) x xs fails))
    ]

-- ---- the squares of a set

-- the numbers of the squares of a set
abbrev pub numbers_in : List Bool → List ℕ
numbers_in set' = filter (λ i. get_or set' i false) (range_with_len 0 64)

pub members-numbers : (set' : List Bool) → members set' ≡ map square_at (numbers_in set')
unfolding members squares
members-numbers set' =
    filter-map (has set') square_at (range_with_len 0 64)
    ∙ ap (map square_at) (filter_range-same (λ i. has set' (square_at i))
    (λ i. get_or set' i false) 0 64 (λ i h k. at-square_at false set' i (omega arith)))

-- the empty set has none
pub members-zero : members (bools_of 64 0) ≡ []
members-zero =
    members-numbers (bools_of 64 0)
    ∙ ap (map square_at) (filter_range-none (λ i. get_or (bools_of 64 0) i false) 0 64
    (λ i h k. get_or-bools_of 64 0 i (omega arith) ∙ ap (λ (x : ℕ). eqb x 1) (bit_at-zero i)))

-- the first of a word's set is the square of its lowest 1
pub members-first : (w : ℕ) → 0 < w → w < 2 ^ 64 →
    (rest : List Square) × (members (bools_of 64 w) ≡ square_at (trailing_zeros w64 w) ∷ rest)
members-first w positive fits =
    let t : ℕ = trailing_zeros w64 w in
    let lowest = bit_at-trailing_zeros w64 w positive fits in
    let found = filter_range-first (λ i. get_or (bools_of 64 w) i false) 0 64 t (omega arith) lowest.0
    (get_or-bools_of 64 w t lowest.0 ∙ ap (λ (x : ℕ). eqb x 1) lowest.1)
    (λ i h k. get_or-bools_of 64 w i (let below : t < 64 = lowest.0 in omega arith) ∙ ap (λ (x : ℕ). eqb x 1)
    (lowest.2 i k)) in
    (map square_at found.0, members-numbers (bools_of 64 w) ∙ ap (map square_at) found.1)

gone : (bs : List Bool) (t : ℕ) → get_or (set bs t false) t false ≡ false
gone bs t = elim (cases_lt t (length bs)) [
  | inl within ↦ get_or-set_same bs t false false within
  | inr past ↦ ap (λ (xs : List Bool). get_or xs t false) (set_past bs t false past) ∙ get_or_past bs t false past
]

without_first : (bs : List Bool) (ns : List ℕ) (s : Square) (rest : List Square) → numbers_in bs ≡ ns →
    map square_at ns ≡ s ∷ rest → members (put bs s false) ≡ rest
unfolding put
without_first bs [] s rest e f = cc
without_first bs (t ∷ ns) s rest e f =
    let here : square_at t ≡ s = cc in
    let others : map square_at ns ≡ rest = cc in
    let number : number_of s ≡ t = ap number_of (sym here) ∙ number_of-square_at t in
    members-numbers (set bs (number_of s) false)
    ∙ ap (λ (n : ℕ). map square_at (numbers_in (set bs n false))) number
    ∙ ap (map square_at) (filter_range-rest (λ i. get_or bs i false)
    (λ i. get_or (set bs t false) i false) 0 64 t ns e (gone bs t)
    (λ i ne. get_or-set_other bs t i false false ne))
    ∙ others

-- without its first square a set has the others
pub members-rest : (bs : List Bool) (s : Square) (rest : List Square) → members bs ≡ s ∷ rest →
    members (put bs s false) ≡ rest
members-rest bs s rest e = without_first bs (numbers_in bs) s rest refl (sym (members-numbers bs) ∙ e)

after_first : (ms : List Square) (bs : List Bool) (s : Square) → members bs ≡ ms → Some s ≡ head_of ms →
    members bs ≡ s ∷ members (put bs s false)
after_first [] bs s e f = cc
after_first (m ∷ ms) bs s e f =
    let head : m ≡ s = cc in
    let whole : members bs ≡ s ∷ ms = e ∙ ap (λ (x : Square). x ∷ ms) head in
    whole ∙ ap (λ (xs : List Square). s ∷ xs) (sym (members-rest bs s ms whole))

pub members-after_first : (bs : List Bool) (s : Square) → Some s ≡ head_of (members bs) →
    members bs ≡ s ∷ members (put bs s false)
members-after_first bs s f = after_first (members bs) bs s refl f

word_of-mask : (bs : List Bool) → word_of bs ≡ mask_l bs
word_of-mask [] = refl
word_of-mask (b ∷ bs) = ap (λ (n : ℕ). cond b 1 0 + 2 * n) (word_of-mask bs)

-- a set has as many squares as its word has ones
pub length-members : (w : ℕ) → w < 2 ^ 64 → count_ones w ≡ length (members (bools_of 64 w))
length-members w fits =
    let bs : List Bool = bools_of 64 w in
    let p : ℕ → Bool = λ i. get_or bs i false in
    ap count_ones (sym (word_of-bools_of 64 w fits) ∙ word_of-mask bs
    ∙ ap mask_l (fill_by_all p bs 64 false (length-bools_of 64 w) (λ k h. refl)))
    ∙ ones-mask_l p (range_with_len 0 64) ∙ sym (length-filter p (range_with_len 0 64))
    ∙ sym (length-map (numbers_in bs) square_at) ∙ ap length (sym (members-numbers bs))

fold-map : {A B C : Type 0} (g : C → B → C) (f : A → B) (start : C) (xs : List A) →
    fold g start (map f xs) ≡ fold (λ c x. g c (f x)) start xs
fold-map g f start [] = refl
fold-map g f start (x ∷ xs) = fold-map g f (g start (f x)) xs

count_by-map : {A B : Type 0} (p : B → Bool) (f : A → B) (xs : List A) →
    count_by p (map f xs) ≡ count_by (λ x. p (f x)) xs
count_by-map p f xs = fold-map (λ (n : ℕ) y. n + cond (p y) 1 0) f 0 xs

-- a set made by a test of the values of a whole table has as many squares as values pass
pub length-members_map : {A : Type 0} (q : A → Bool) (table : List A) → length table ≡ 64 →
    length (members (map q table)) ≡ count_by q table
length-members_map q table whole =
    let bs : List Bool = map q table in
    let p : ℕ → Bool = λ i. get_or bs i false in
    ap length (members-numbers bs) ∙ length-map (numbers_in bs) square_at ∙ length-filter p (range_with_len 0 64)
    ∙ sym (count_by-map (λ b. b) p (range_with_len 0 64))
    ∙ ap (count_by (λ (b : Bool). b)) (sym (fill_by_all p bs 64 false (length-map table q ∙ whole) (λ k h. refl)))
    ∙ count_by-map (λ b. b) q table
