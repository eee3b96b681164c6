-- Filters, and lists made of parts.
use Rattle.std.specs.Prelude.{ℕ, ◌≡◌, ◌*◌, ◌≤◌, Bool, true, false, cond, List, [], ◌∷◌, ◌++◌, length, filter, flat_map, Contains}
use Rattle.std.proofs.Common.{arith, ap, sym, ◌∙◌, inl, inr, refl, length-append}
use Rattle.std.proofs.lemmas.Bool.{cases_Bool}
use Rattle.std.proofs.lemmas.List.Elements.{filter-append, filter_passes, All-contains}
use Rattle.chess_bits.proofs.MemberLemmas.{filter-here, filter-not_here}
use Rattle.chess_board.proofs.DistinctMoves.{Contains-here, Contains-later}

pub filter-flat_map : {A B : Type 0} (test : B → Bool) (f : A → List B) (xs : List A) →
    filter test (flat_map f xs) ≡ flat_map (λ x. filter test (f x)) xs
filter-flat_map test f [] = refl
filter-flat_map {B = B} test f (x ∷ xs) =
    filter-append test (f x) (flat_map f xs)
    ∙ ap (λ (rest : List B). filter test (f x) ++ rest) (filter-flat_map test f xs)

-- the parts of the items that pass, where the others have none
pub flat_map-filter : {A B : Type 0} (test : A → Bool) (f g : A → List B) (xs : List A) →
    ((x : A) → Contains xs x → test x ≡ true → f x ≡ g x) →
    ((x : A) → Contains xs x → test x ≡ false → g x ≡ []) →
    flat_map f (filter test xs) ≡ flat_map g xs
flat_map-filter test f g [] same none = refl
flat_map-filter {A = A} {B = B} test f g (x ∷ xs) same none =
    let rest : flat_map f (filter test xs) ≡ flat_map g xs =
    flat_map-filter test f g xs (λ z here. same z (Contains-later z x xs here))
    (λ z here. none z (Contains-later z x xs here)) in
    elim (cases_Bool (test x)) [
      | inl kept ↦
          ap (flat_map f) (filter-here test x xs kept)
          ∙ ap (λ (front : List B). front ++ flat_map f (filter test xs)) (same x (Contains-here x x xs refl) kept)
          ∙ ap (λ (back : List B). g x ++ back) rest
      | inr left ↦
          ap (flat_map f) (filter-not_here test x xs left) ∙ rest
          ∙ sym (ap (λ (front : List B). front ++ flat_map g xs) (none x (Contains-here x x xs refl) left))
    ]

pub filter-none : {A : Type 0} (test : A → Bool) (xs : List A) → ((x : A) → Contains xs x → test x ≡ false) →
    filter test xs ≡ []
filter-none test [] none = refl
filter-none test (x ∷ xs) none =
    filter-not_here test x xs (none x (Contains-here x x xs refl))
    ∙ filter-none test xs (λ z here. none z (Contains-later z x xs here))

pub filter-same : {A : Type 0} (p q : A → Bool) (xs : List A) → ((x : A) → p x ≡ q x) → filter p xs ≡ filter q xs
filter-same p q [] same = refl
filter-same {A = A} p q (x ∷ xs) same =
    ap (λ (b : Bool). cond b (x ∷ filter p xs) (filter p xs)) (same x)
    ∙ ap (λ (rest : List A). cond (q x) (x ∷ rest) rest) (filter-same p q xs same)

pub length-filter_most : {A : Type 0} (test : A → Bool) (xs : List A) → length (filter test xs) ≤ length xs
length-filter_most test [] = omega arith
length-filter_most test (x ∷ xs) = elim (cases_Bool (test x)) [
  | inl kept ↦ rw (filter-here test x xs kept) (omega (arith, length-filter_most test xs))
  | inr left ↦ rw (filter-not_here test x xs left) (omega (arith, length-filter_most test xs))
]

-- parts of at most n items
pub length-parts : {A B : Type 0} (f : A → List B) (n : ℕ) (xs : List A) →
    ((x : A) → Contains xs x → length (f x) ≤ n) → length (flat_map f xs) ≤ n * length xs
length-parts f n [] each = omega arith
length-parts f n (x ∷ xs) each =
    let rest : length (flat_map f xs) ≤ n * length xs =
    length-parts f n xs (λ z here. each z (Contains-later z x xs here)) in
    let here : length (f x) ≤ n = each x (Contains-here x x xs refl) in
    rw (length-append (f x) (flat_map f xs)) (omega arith)

-- parts of at most n items where a test passes, and of none elsewhere
pub length-parts_passing : {A B : Type 0} (f : A → List B) (test : A → Bool) (n : ℕ) (xs : List A) →
    ((x : A) → Contains xs x → length (f x) ≤ cond (test x) n 0) →
    length (flat_map f xs) ≤ n * length (filter test xs)
length-parts_passing f test n [] each = omega arith
length-parts_passing f test n (x ∷ xs) each =
    let rest : length (flat_map f xs) ≤ n * length (filter test xs) =
    length-parts_passing f test n xs (λ z here. each z (Contains-later z x xs here)) in
    let here : length (f x) ≤ cond (test x) n 0 = each x (Contains-here x x xs refl) in
    elim (cases_Bool (test x)) [
      | inl kept ↦
          let most : length (f x) ≤ n = rw kept at here in
          rw (filter-here test x xs kept, length-append (f x) (flat_map f xs)) (omega arith)
      | inr left ↦
          let most : length (f x) ≤ 0 = rw left at here in
          rw (filter-not_here test x xs left, length-append (f x) (flat_map f xs)) (omega arith)
    ]

pub passes_there : {A : Type 0} (test : A → Bool) (xs : List A) (x : A) → Contains (filter test xs) x → test x ≡ true
passes_there test xs x here =
    All-contains (λ y. test y ≡ true) (filter test xs) x (filter_passes test xs) here
