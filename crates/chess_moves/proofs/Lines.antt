-- Slides toward the king once a man has gone from one square to another.
use Rattle.std.specs.Prelude.{ℕ, ◌≡◌, ◌≢◌, ◌⊎◌, ◌-◌, ◌<◌, ◌≤◌, Bool, true, false, cond, List}
use Rattle.std.specs.List.{list_any, range_with_len}
use Rattle.std.proofs.Common.{arith, refl, sym, ap, subst, ◌∙◌, inl, inr}
use Rattle.std.proofs.lemmas.Bool.{false≢true, cases_Bool}
use Rattle.chess_bits.specs.declared.steps.Step.{Step}
use Rattle.chess_bits.specs.Square.{Square, IsOnBoard, is_square}
use Rattle.chess_bits.specs.Table.{has}
use Rattle.chess_bits.specs.Attack.{along, SlidesAlong}
use Rattle.chess_bits.proofs.TableLemmas.{is_square-true, is_square-other, is_square-same, is_square-false, Decides-is_square}
use Rattle.chess_bits.proofs.AlongLemmas.{along-between}
use Rattle.chess_bits.proofs.Deciding.{Decides-some_from}
use Rattle.chess_attacks.proofs.Nearest.{Differs}
use Rattle.chess_moves.specs.Masks.{IsBetween, Stops, IsAloneBetween}

-- the squares with men afterwards: without the square left, and with the square reached
abbrev pub IsAfter : List Bool → List Bool → Square → Square → Type 0
IsAfter before after from to =
    (q : Square) → has after q ≡ cond (is_square q to) true (cond (is_square q from) false (has before q))

-- the square was left, or nothing stood there
abbrev pub IsOpen : List Bool → Square → Square → Type 0
IsOpen before from q = (q ≡ from) ⊎ (has before q ≡ false)

free_cases : (t f b : Bool) → cond t true (cond f false b) ≡ false → (t ≡ false) × ((f ≡ true) ⊎ (b ≡ false))
free_cases true f b e = absurd (false≢true (sym e))
free_cases false true b e = (refl, inl refl)
free_cases false false b e = (refl, inr e)

pub after_free : (before after : List Bool) (from to q : Square) → IsAfter before after from to →
    has after q ≡ false → (q ≢ to) × IsOpen before from q
after_free before after from to q is free =
    let cases = free_cases (is_square q to) (is_square q from) (has before q) (sym (is q) ∙ free) in (
      is_square-false q to cases.0,
      elim (cases.1) [ inl e ↦ inl (is_square-true q from e) | inr e ↦ inr e ],
    )

cases_free : (f b : Bool) → (f ≡ true) ⊎ (b ≡ false) → cond f false b ≡ false
cases_free true b some = refl
cases_free false b (inl e) = absurd (false≢true e)
cases_free false b (inr e) = e

pub free_after : (before after : List Bool) (from to q : Square) → IsAfter before after from to → q ≢ to →
    IsOpen before from q → has after q ≡ false
free_after before after from to q is apart open' =
    is q ∙ ap (λ (t : Bool). cond t true (cond (is_square q from) false (has before q))) (is_square-other q to apart)
    ∙ cases_free (is_square q from) (has before q) (elim open' [
      | inl e ↦ inl (is_square-same q from e)
      | inr e ↦ inr e
    ])

-- whether a square lies before the n-th of a way
pub passes : (k q : Square) (d : Step) (n : ℕ) →
    ((j : ℕ) × (1 ≤ j) × (j < n) × (along j d k ≡ q)) ⊎ ((j : ℕ) → 1 ≤ j → j < n → along j d k ≢ q)
passes k q d n =
    let test : ℕ → Bool = λ j. is_square (along j d k) q in
    let some = Decides-some_from test (λ j. along j d k ≡ q) 1 (n - 1) (λ j _ _. Decides-is_square (along j d k) q) in
    elim (cases_Bool (list_any test (range_with_len 1 (n - 1)))) [
      | inl hit ↦
          let (j, one, below, here) = some.0 hit in
          inl (j, one, omega arith, here)
      | inr none ↦ inr (λ j one below here. false≢true (sym none ∙ some.1 (j, one, omega arith, here)))
    ]

-- A slider that no longer reaches the king, though nothing but the man that left stood between, is stopped by that man.
pub stopped : (before after : List Bool) (k c from to : Square) (d : Step) (n : ℕ) → IsAfter before after from to →
    1 ≤ n → c ≡ along n d k → ((j : ℕ) → 1 ≤ j → j < n → IsOpen before from (along j d k)) →
    ¬ SlidesAlong after k c d → IsBetween k c to d
stopped before after k c from to d n is positive there open' shut = elim (passes k to d n) [
  | inl (j, one, below, here) ↦ record {
    near = j;
    far = n;
    positive = one;
    nearer = below;
    there = there;
    here = sym here;
  }
  | inr never ↦ absurd (shut (record {
    distance = n;
    positive = positive;
    there = there;
    between_empty = λ j one below. free_after before after from to (along j d k) is (never j one below)
        (open' j one below);
  }))
]

-- the slide to the slider does not lead through a man that stops it
through : (before after : List Bool) (k c from to : Square) (d : Step) → Differs d → IsAfter before after from to →
    IsOnBoard c → SlidesAlong after k c d → ¬ IsBetween k c to d
through before after k c from to d differs is on_c slide between =
    let same : between.far ≡ slide.distance =
    differs k between.far slide.distance (subst IsOnBoard between.there on_c) (subst IsOnBoard slide.there on_c)
    (sym between.there ∙ slide.there) in
    (after_free before after from to (along between.near d k) is
    (slide.between_empty between.near between.positive (omega (arith, between.nearer)))).0 (sym between.here)

-- A slider that reaches the king afterwards gave check before, or pinned the man that left.
pub reaches_after : (before after : List Bool) (k c from to : Square) (d : Step) → Differs d →
    IsAfter before after from to → IsOnBoard k → IsOnBoard c → c ≢ to →
    (SlidesAlong before k c d → Stops k c d to) → (IsAloneBetween before k c from d → Stops k c d to) →
    ¬ SlidesAlong after k c d
reaches_after before after k c from to d differs is on_k on_c apart ends keeps slide =
    let n : ℕ = slide.distance in
    let on_n : IsOnBoard (along n d k) = subst IsOnBoard slide.there on_c in
    let opened = λ (j : ℕ) (one : 1 ≤ j) (below : j < n). (after_free before after from to (along j d k) is
    (slide.between_empty j one below)).1 in
    let no_stop = λ (stops : Stops k c d to). no_stops stops in
    elim (passes k from d n) [
      | inl (i, one, below, here) ↦ no_stops (keeps (record {
        between = record { near = i; far = n; positive = one; nearer = below; there = slide.there; here = sym here };
        alone = λ j one_j below_j other. elim (opened j one_j below_j) [
          | inl e ↦ absurd (other (differs k j i (along-between j n d k on_k (omega arith) on_n)
              (along-between i n d k on_k (omega arith) on_n) (e ∙ sym here)))
          | inr free ↦ free
        ];
      }))
      | inr never ↦ no_stops (ends (record {
        distance = n;
        positive = slide.positive;
        there = slide.there;
        between_empty = λ j one_j below_j. elim (opened j one_j below_j) [
          | inl e ↦ absurd (never j one_j below_j e)
          | inr free ↦ free
        ];
      }))
    ]
  where
    no_stops : Stops k c d to → ⊥
    no_stops (inl e) = apart (sym e)
    no_stops (inr between) = through before after k c from to d differs is on_c slide between
