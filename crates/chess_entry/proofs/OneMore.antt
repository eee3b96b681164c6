-- Lists with one element more at their end.
use Rattle.std.specs.Prelude.{ℕ, ◌≡◌, ◌+◌, ◌-◌, Bool, true, false, ◌||◌, not, if◌then◌else◌, List, [], ◌∷◌, ◌++◌, length, filter, max, Option, Some, None}
use Rattle.std.specs.List.{flat_map, last_or, list_any, after_last, prefix_len, suffix_len, range_with_len}
use Rattle.std.proofs.Common.{arith, ap, sym, ◌∙◌, refl, drop, suc, zero, add-one, append_assoc, length-append}
use Rattle.std.proofs.Math.ListN.{drop_of_length-le}
use Rattle.std.proofs.lemmas.List.{append-nil, reverse-append, drop-append-le}
use Rattle.std.proofs.lemmas.List.Elements.{filter-append}
use Rattle.std.proofs.lemmas.List.Sums.{suffix_len-le-length}
use Rattle.std.proofs.lemmas.List.Folds.{list_any-append}
use Rattle.std.proofs.lemmas.Grind.{flat_map-append}
use Rattle.std.proofs.Math.Bool.{or-false}
use Rattle.rec_codec.specs.declared.record.Entry.{Entry}
use Rattle.chess_entry.specs.Story.{Placed, placed, placed_after, each_placed, given_or, first_given}
use Rattle.chess_entry.specs.Games.{greatest}

pub placed_after-more : (before xs : List Entry) (x : Entry) →
    placed_after before (xs ++ x ∷ []) ≡ placed_after before xs ++ placed (before ++ xs) x ∷ []
placed_after-more before [] x = ap (λ (b : List Entry). placed b x ∷ []) (sym (append-nil before))
placed_after-more before (y ∷ xs) x =
    ap (λ (rest : List Placed). placed before y ∷ rest) (placed_after-more (before ++ y ∷ []) xs x)
    ∙ ap (λ (b : List Entry). placed before y ∷ (placed_after (before ++ y ∷ []) xs ++ placed b x ∷ []))
    (append_assoc before (y ∷ []) xs)

pub each_placed-more : (xs : List Entry) (x : Entry) → each_placed (xs ++ x ∷ []) ≡ each_placed xs ++ placed xs x ∷ []
each_placed-more xs x = placed_after-more [] xs x

pub given_or-none : {A : Type 0} (o : Option A) → given_or o None ≡ o
given_or-none None = refl
given_or-none (Some a) = refl

given_or-assoc : {A : Type 0} (o p q : Option A) → given_or o (given_or p q) ≡ given_or (given_or o p) q
given_or-assoc None p q = refl
given_or-assoc (Some a) p q = refl

pub first_given-more : {A B : Type 0} (f : A → Option B) (xs : List A) (x : A) →
    first_given f (xs ++ x ∷ []) ≡ given_or (first_given f xs) (f x)
first_given-more f [] x = given_or-none (f x)
first_given-more f (y ∷ xs) x =
    ap (given_or (f y)) (first_given-more f xs x) ∙ given_or-assoc (f y) (first_given f xs) (f x)

pub flat_map-more : {A B : Type 0} (f : A → List B) (xs : List A) (x : A) →
    flat_map f (xs ++ x ∷ []) ≡ flat_map f xs ++ f x
flat_map-more {B = B} f xs x =
    flat_map-append f xs (x ∷ []) ∙ ap (λ (last : List B). flat_map f xs ++ last) (append-nil (f x))

pub filter-more : {A : Type 0} (p : A → Bool) (xs : List A) (x : A) →
    filter p (xs ++ x ∷ []) ≡ filter p xs ++ (if p x then x ∷ [] else [])
filter-more p xs x = filter-append p xs (x ∷ [])

pub last_or-more : {A : Type 0} (o : Option A) (xs : List A) (x : A) → last_or o (xs ++ x ∷ []) ≡ Some x
last_or-more o [] x = refl
last_or-more o (y ∷ xs) x = last_or-more (Some y) xs x

-- the last that passes
pub last_passing-more : {A : Type 0} (p : A → Bool) (xs : List A) (x : A) →
    last_or None (filter p (xs ++ x ∷ [])) ≡ (if p x then Some x else last_or None (filter p xs))
last_passing-more {A = A} p xs x =
    ap (last_or None) (filter-more p xs x) ∙ by_test (p x)
  where
    by_test : (b : Bool) → last_or None (filter p xs ++ (if b then x ∷ [] else []))
        ≡ (if b then Some x else last_or None (filter p xs))
    by_test true = last_or-more None (filter p xs) x
    by_test false = ap (last_or None) (append-nil (filter p xs))

pub list_any-more : {A : Type 0} (p : A → Bool) (xs : List A) (x : A) →
    list_any p (xs ++ x ∷ []) ≡ (list_any p xs || p x)
list_any-more p xs x =
    list_any-append p xs (x ∷ []) ∙ ap (λ (b : Bool). list_any p xs || b) (or-false (p x))

suffix_len-more : {A : Type 0} (p : A → Bool) (xs : List A) (x : A) →
    suffix_len p (xs ++ x ∷ []) ≡ (if p x then 1 + suffix_len p xs else 0)
suffix_len-more p xs x = ap (prefix_len p) (reverse-append xs (x ∷ []))

pub after_last-more : {A : Type 0} (p : A → Bool) (xs : List A) (x : A) →
    after_last p (xs ++ x ∷ []) ≡ (if p x then [] else after_last p xs ++ x ∷ [])
after_last-more {A = A} p xs x =
    ap (λ (n : ℕ). drop (length (xs ++ x ∷ []) - n) (xs ++ x ∷ [])) (suffix_len-more (λ y. not (p y)) xs x)
    ∙ by_test (p x)
  where
    by_test : (b : Bool) →
        drop (length (xs ++ x ∷ []) - (if not b then 1 + suffix_len (λ y. not (p y)) xs else 0)) (xs ++ x ∷ [])
        ≡ (if b then [] else after_last p xs ++ x ∷ [])
    by_test true = drop_of_length-le (xs ++ x ∷ []) (omega arith)
    by_test false =
        let most = suffix_len-le-length (λ y. not (p y)) xs in
        let front : length (xs ++ x ∷ []) - (1 + suffix_len (λ y. not (p y)) xs)
        ≡ length xs - suffix_len (λ y. not (p y)) xs = omega (arith, length-append xs (x ∷ [])) in
        ap (λ (n : ℕ). drop n (xs ++ x ∷ [])) front
        ∙ drop-append-le (length xs - suffix_len (λ y. not (p y)) xs) xs (x ∷ []) (omega arith)

-- whether one of those after the last that passes the one test passes the other
pub any_since-more : {A : Type 0} (p q : A → Bool) (xs : List A) (x : A) →
    list_any q (after_last p (xs ++ x ∷ []))
    ≡ (if p x then false else (list_any q (after_last p xs) || q x))
any_since-more p q xs x =
    ap (list_any q) (after_last-more p xs x) ∙ by_test (p x)
  where
    by_test : (b : Bool) → list_any q (if b then [] else after_last p xs ++ x ∷ [])
        ≡ (if b then false else (list_any q (after_last p xs) || q x))
    by_test true = refl
    by_test false = list_any-more q (after_last p xs) x

pub greatest-more : (ns : List ℕ) (n : ℕ) → greatest (ns ++ n ∷ []) ≡ max (greatest ns) n
greatest-more [] n = omega arith
greatest-more (m ∷ ns) n = let rest = greatest-more ns n in omega arith

range-suc : (a n : ℕ) → range_with_len a (suc n) ≡ range_with_len a n ++ (a + n) ∷ []
range-suc a zero = ap (λ (k : ℕ). k ∷ []) (omega arith)
range-suc a (suc n) =
    let last : a + 1 + n ≡ a + suc n = omega arith in
    ap (λ (ns : List ℕ). a ∷ ns) (range-suc (a + 1) n)
    ∙ ap (λ (k : ℕ). a ∷ (range_with_len (a + 1) n ++ k ∷ [])) last

pub range-more : (a n : ℕ) → range_with_len a (n + 1) ≡ range_with_len a n ++ (a + n) ∷ []
range-more a n = rw add-one (range-suc a n)
