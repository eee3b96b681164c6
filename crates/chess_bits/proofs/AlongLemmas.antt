use Rattle.std.proofs.Common.{ℕ, zero, suc, ◌≡◌, ◌+◌, ◌-◌, ◌*◌, ◌<◌, ◌≤◌, Bool, true, cond, not, ◌||◌, ◌&&◌, List, [], ◌∷◌, length, get_or, drop, refl, ap, sym, subst, ◌∙◌, inl, inr, arith}
use Rattle.std.specs.List.{filter, list_all}
use Rattle.std.proofs.lemmas.Bool.{cases_lt, cases_order, cases_Bool}
use Rattle.std.proofs.lemmas.List.FromFn.{get_or-map-range_with_len}
use Rattle.std.proofs.Math.Nat.{mul-le-mul_left}
use Rattle.chess_bits.specs.Square.{Square, IsOnBoard, number_of, square_at, squares}
use Rattle.chess_bits.specs.Table.{has, members}
use Rattle.chess_bits.specs.Attack.{Step, along, SomeOf}
use Rattle.chess_bits.proofs.TableLemmas.{same_square, number_of-below, square_at-number_of}

-- ---- one coordinate: n times so much more, less n times so much less

abbrev coordinate : ℕ → ℕ → ℕ → ℕ → ℕ
coordinate n start more less = start + n * more - n * less

pub product-split : (n k m : ℕ) → k ≤ n → n * m ≡ k * m + (n - k) * m
product-split n k m le =
    let whole : n ≡ k + (n - k) = omega arith in ap (λ (x : ℕ). x * m) whole ∙ distributed k (n - k) m
  where
    distributed : (a b m : ℕ) → (a + b) * m ≡ a * m + b * m
    distributed a b m = grind arith

-- what is off the board stays off the board
coordinate-off : (k n start more less : ℕ) → 1 ≤ start → start ≤ 8 → k ≤ n → 1 ≤ coordinate n start more less →
    coordinate n start more less ≤ 8 →
    (1 ≤ coordinate k start more less) × (coordinate k start more less ≤ 8)
coordinate-off k n start more less low high le on_low on_high =
    elim (cases_lt more less) [
      | inl smaller ↦
          let rest : ℕ = n - k in
          let bigger : rest * more ≤ rest * less = mul-le-mul_left rest (omega arith) in
          let here : k * more ≤ k * less = mul-le-mul_left k (omega arith) in
          let n_more : n * more ≡ k * more + rest * more = product-split n k more le in
          let n_less : n * less ≡ k * less + rest * less = product-split n k less le in
          (omega arith, omega arith)
      | inr larger ↦
          let rest : ℕ = n - k in
          let bigger : rest * less ≤ rest * more = mul-le-mul_left rest larger in
          let here : k * less ≤ k * more = mul-le-mul_left k larger in
          let n_more : n * more ≡ k * more + rest * more = product-split n k more le in
          let n_less : n * less ≡ k * less + rest * less = product-split n k less le in
          (omega arith, omega arith)
    ]

-- eight steps that change a coordinate leave the board
coordinate-far : (n start more less : ℕ) → 1 ≤ start → start ≤ 8 → 8 ≤ n → 1 ≤ coordinate n start more less →
    coordinate n start more less ≤ 8 → more ≡ less
coordinate-far n start more less low high far on_low on_high =
    elim (cases_order more less) [
      | inl same ↦ same
      | inr (inl smaller) ↦
          let step : n * (more + 1) ≤ n * less = mul-le-mul_left n (omega arith) in
          absurd (omega arith)
      | inr (inr larger) ↦
          let step : n * (less + 1) ≤ n * more = mul-le-mul_left n (omega arith) in
          absurd (omega arith)
    ]

coordinate-still : (n start more less : ℕ) → more ≡ less → coordinate n start more less ≡ start
coordinate-still n start more less e = rw e (omega arith)

-- ---- squares along a step

pub along-zero : (step : Step) (a : Square) → along 0 step a ≡ a
along-zero step a = same_square (along 0 step a) a (omega arith) (omega arith)

-- a square between two of the board is on the board
pub along-between : (k n : ℕ) (step : Step) (a : Square) → IsOnBoard a → k ≤ n → IsOnBoard (along n step a) →
    IsOnBoard (along k step a)
along-between k n step a on le there =
    let file = coordinate-off k n a.file step.right step.left on.file_from on.file_to le there.file_from
    there.file_to in
    let rank = coordinate-off k n a.rank step.up step.down on.rank_from on.rank_to le there.rank_from there.rank_to in
    record { file_from = file.0; file_to = file.1; rank_from = rank.0; rank_to = rank.1 }

-- a step that stays on the board eight times or more does not move
pub along-far : (n : ℕ) (step : Step) (a : Square) → IsOnBoard a → 8 ≤ n → IsOnBoard (along n step a) →
    along n step a ≡ along 1 step a
along-far n step a on far there =
    let file = coordinate-far n a.file step.right step.left on.file_from on.file_to far there.file_from there.file_to in
    let rank = coordinate-far n a.rank step.up step.down on.rank_from on.rank_to far there.rank_from there.rank_to in
    same_square (along n step a) (along 1 step a)
    (coordinate-still n a.file step.right step.left file ∙ sym (coordinate-still 1 a.file step.right step.left file))
    (coordinate-still n a.rank step.up step.down rank ∙ sym (coordinate-still 1 a.rank step.up step.down rank))

-- ---- some item of a list

pub SomeOf-at : {A : Type 0} (P : A → Type 0) (xs : List A) (i : ℕ) (d : A) → i < length xs →
    P (get_or xs i d) → SomeOf P xs
SomeOf-at P [] i d h p = absurd (omega arith)
SomeOf-at P (x ∷ xs) zero d h p = inl p
SomeOf-at P (x ∷ xs) (suc i) d h p = inr (SomeOf-at P xs i d (omega arith) p)

after : {A : Type 0} (P : A → Type 0) (xs : List A) (i : ℕ) (d : A) → i < length xs → ¬ P (get_or xs i d) →
    SomeOf P (drop i xs) → SomeOf P (drop (suc i) xs)
after P [] i d h not_here some = absurd (omega arith)
after P (x ∷ xs) zero d h not_here (inl here) = absurd (not_here here)
after P (x ∷ xs) zero d h not_here (inr later) = later
after P (x ∷ xs) (suc i) d h not_here some = after P xs i d (omega arith) not_here some

pub SomeOf-filter : {A : Type 0} (P : A → Type 0) (p : A → Bool) (xs : List A) →
    SomeOf (λ x. (p x ≡ true) × P x) xs → SomeOf P (filter p xs)
SomeOf-filter P p [] some = some
SomeOf-filter {A = A} P p (x ∷ xs) (inl here) = let Some' : List A → Type 0 = SomeOf P in
    subst Some' (sym (ap (λ (b : Bool). cond b (x ∷ filter p xs) (filter p xs)) here.0)) (inl here.1)
SomeOf-filter {A = A} P p (x ∷ xs) (inr later) =
    let Some' : List A → Type 0 = SomeOf P in
    elim (cases_Bool (p x)) [
      | inl kept ↦ subst Some' (sym (ap (λ (b : Bool). cond b (x ∷ filter p xs) (filter p xs)) kept))
          (inr (SomeOf-filter P p xs later))
      | inr left ↦ subst Some' (sym (ap (λ (b : Bool). cond b (x ∷ filter p xs) (filter p xs)) left))
          (SomeOf-filter P p xs later)
    ]

-- each item of a list passes a test
abbrev pub PassesEach : {A : Type 0} → (A → Bool) → List A → Type 0
PassesEach p [] = Unit {0}
PassesEach p (x ∷ xs) = (p x ≡ true) × PassesEach p xs

pub PassesEach-filter : {A : Type 0} (p : A → Bool) (xs : List A) → PassesEach p (filter p xs)
PassesEach-filter p [] = tt
PassesEach-filter {A = A} p (x ∷ xs) =
    let Passes' : List A → Type 0 = PassesEach p in
    elim (cases_Bool (p x)) [
      | inl kept ↦ subst Passes' (sym (ap (λ (b : Bool). cond b (x ∷ filter p xs) (filter p xs)) kept))
          (kept, PassesEach-filter p xs)
      | inr left ↦ subst Passes' (sym (ap (λ (b : Bool). cond b (x ∷ filter p xs) (filter p xs)) left))
          (PassesEach-filter p xs)
    ]

pub get_or-squares : (s : Square) → IsOnBoard s → (d : Square) → get_or squares (number_of s) d ≡ s
unfolding squares
get_or-squares s on d =
    get_or-map-range_with_len square_at 0 64 (number_of s) (number_of s) d (number_of-below s on)
    (omega arith) ∙ square_at-number_of s on

pub length-all_squares : length squares ≡ 64
unfolding squares
length-all_squares = refl

-- a square of a set is among its members
pub SomeOf-members : (P : Square → Type 0) (bs : List Bool) (s : Square) → IsOnBoard s → has bs s ≡ true →
    P s → SomeOf P (members bs)
unfolding members
SomeOf-members P bs s on member holds =
    let below : number_of s < length squares = omega (arith, length-all_squares, number_of-below s on) in
    SomeOf-filter P (has bs) squares
    (SomeOf-at (λ x. (has bs x ≡ true) × P x) squares (number_of s) s below
    (let Both : Square → Type 0 = λ x. (has bs x ≡ true) × P x in subst Both (sym (get_or-squares s on s))
    (member, holds)))

-- the members of a set are in it
pub PassesEach-members : (bs : List Bool) → PassesEach (has bs) (members bs)
unfolding members
PassesEach-members bs = PassesEach-filter (has bs) squares

-- a test of each item that a filter keeps
pub list_all-filter : {A : Type 0} (q p : A → Bool) (xs : List A) →
    list_all q (filter p xs) ≡ list_all (λ x. not (p x) || q x) xs
list_all-filter q p [] = refl
list_all-filter q p (x ∷ xs) =
    elim (cases_Bool (p x)) [
      | inl kept ↦ rw (kept) (ap (λ (b : Bool). q x && b) (list_all-filter q p xs))
      | inr left ↦ rw (left) (list_all-filter q p xs)
    ]

pub list_all-same : {A : Type 0} (p q : A → Bool) (xs : List A) → ((x : A) → p x ≡ q x) → list_all p xs ≡ list_all q xs
list_all-same p q [] same = refl
list_all-same p q (x ∷ xs) same = ap (λ (b : Bool). b && list_all p xs) (same x) ∙ ap (λ (b : Bool). q x && b)
    (list_all-same p q xs same)
