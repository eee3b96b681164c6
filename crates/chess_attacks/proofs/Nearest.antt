-- The nearest square of a set in a way, and what lies beyond it.
use Rattle.std.proofs.Common.{ℕ, ◌≡◌, ◌+◌, ◌-◌, ◌<◌, ◌≤◌, Bool, true, false, ◌&&◌, List, refl, ap, sym, subst, ◌∙◌, inl, inr, arith, Some}
use Rattle.std.proofs.lemmas.Bool.{cases_order, false≢true, and_parts, false_from_ne_true}
use Rattle.chess_bits.specs.declared.steps.Step.{Step}
use Rattle.chess_bits.specs.Square.{Square, IsOnBoard, number_of}
use Rattle.chess_bits.specs.Table.{has, meet, members, head_of, empty, IsSetOf, IsGreatest}
use Rattle.chess_bits.specs.Attack.{along, SlidesAlong}
use Rattle.chess_bits.proofs.AlongLemmas.{along-between}
use Rattle.chess_bits.proofs.SetLemmas.{has-meet, IsLeast-first}
use Rattle.chess_attacks.proofs.Listed.{has-empty}
use Rattle.chess_attacks.proofs.WayLemmas.{Adds, Rises, Falls}

-- the squares over an empty board
abbrev pub IsRay : List Bool → Square → Step → Type 0
IsRay set a step = IsSetOf set (λ b. SlidesAlong empty a b step)

-- over the empty board a man slides as far as it likes
pub empty_slide : (a b : Square) (step : Step) (n : ℕ) → IsOnBoard a → IsOnBoard b → 1 ≤ n → b ≡ along n step a →
    SlidesAlong empty a b step
empty_slide a b step n on_a on_b positive there = record {
  distance = n;
  positive = positive;
  there = there;
  between_empty = λ j from below. has-empty (along j step a)
      (along-between j n step a on_a (omega arith) (subst IsOnBoard there on_b));
}

-- a square on the way to a square of the board lies on the ray
pub on_ray : (whole : List Bool) (a : Square) (step : Step) (n j : ℕ) → IsOnBoard a → IsRay whole a step →
    IsOnBoard (along n step a) → 1 ≤ j → j ≤ n → IsOnBoard (along j step a) × (has whole (along j step a) ≡ true)
on_ray whole a step n j on ray there positive within =
    let on_j : IsOnBoard (along j step a) = along-between j n step a on within there in
    (on_j, (ray.exact (along j step a) on_j).1 (empty_slide a (along j step a) step j on on_j positive refl))

pub second_false : (x y : Bool) → x ≡ true → (x && y) ≡ false → y ≡ false
second_false true y e both = both
second_false false y e both = absurd (false≢true e)

-- squares of a way at different distances differ
abbrev pub Differs : Step → Type 0
Differs step = (a : Square) (j k : ℕ) → IsOnBoard (along j step a) → IsOnBoard (along k step a) →
    along j step a ≡ along k step a → j ≡ k

pub rises-differs : (step : Step) → Rises step → Differs step
rises-differs step rises a j k on_j on_k same = elim (cases_order j k) [
  | inl e ↦ e
  | inr (inl less) ↦ absurd (omega (arith, rises a j k on_j on_k less, ap number_of same))
  | inr (inr more) ↦ absurd (omega (arith, rises a k j on_k on_j more, ap number_of same))
]

pub falls-differs : (step : Step) → Falls step → Differs step
falls-differs step falls a j k on_j on_k same = elim (cases_order j k) [
  | inl e ↦ e
  | inr (inl less) ↦ absurd (omega (arith, falls a j k on_j on_k less, ap number_of same))
  | inr (inr more) ↦ absurd (omega (arith, falls a k j on_k on_j more, ap number_of same))
]

-- the square of the set that lies n steps off, and none before it
pub record IsNearest (set : List Bool) (a s : Square) (step : Step) (n : ℕ) : Type 0 where
  pub positive : 1 ≤ n
  pub there : s ≡ along n step a
  pub on_board : IsOnBoard s
  pub member : has set s ≡ true
  pub before : (j : ℕ) → 1 ≤ j → j < n → has set (along j step a) ≡ false

-- a square on the ray, before which none on it is of the set
nearest_of : (whole set : List Bool) (a s : Square) (step : Step) → IsOnBoard a → IsRay whole a step → IsOnBoard s →
    has (meet whole set) s ≡ true →
    ((j n : ℕ) → IsOnBoard (along j step a) → IsOnBoard (along n step a) → j < n → s ≡ along n step a →
    has (meet whole set) (along j step a) ≡ false) → (n : ℕ) × IsNearest set a s step n
nearest_of whole set a s step on ray on_s member earlier =
    let parts = and_parts (has whole s) (has set s) (sym (has-meet whole set s) ∙ member) in
    let slide = (ray.exact s on_s).0 parts.0 in
    let there : IsOnBoard (along slide.distance step a) = subst IsOnBoard slide.there on_s in (
      slide.distance,
      record {
        positive = slide.positive;
        there = slide.there;
        on_board = on_s;
        member = parts.1;
        before = λ j from below.
            let passed = on_ray whole a step slide.distance j on ray there from (omega arith) in
            second_false (has whole (along j step a)) (has set (along j step a)) passed.1
            (sym (has-meet whole set (along j step a)) ∙ earlier j slide.distance passed.0 there below slide.there);
      },
    )

-- the first square of the ray in the set, where numbers rise
pub rising_nearest : (whole set : List Bool) (a s : Square) (step : Step) → IsOnBoard a → Rises step →
    IsRay whole a step → Some s ≡ head_of (members (meet whole set)) → (n : ℕ) × IsNearest set a s step n
rising_nearest whole set a s step on rises ray first =
    let least = IsLeast-first (meet whole set) s first in
    nearest_of whole set a s step on ray least.on_board least.member (λ j n on_j there below is.
    least.before (along j step a) on_j (omega (arith, rises a j n on_j there below, ap number_of is)))

-- and where they fall
pub falling_nearest : (whole set : List Bool) (a s : Square) (step : Step) → IsOnBoard a → Falls step →
    IsRay whole a step → IsGreatest (meet whole set) s → (n : ℕ) × IsNearest set a s step n
falling_nearest whole set a s step on falls ray greatest =
    nearest_of whole set a s step on ray greatest.on_board greatest.member (λ j n on_j there below is.
    greatest.after (along j step a) on_j (omega (arith, falls a j n on_j there below, ap number_of is)))

-- beyond it lie the squares that are farther off
pub beyond_far : (beyond set : List Bool) (a s q : Square) (step : Step) (n m : ℕ) → Adds step → IsRay beyond s step →
    IsNearest set a s step n → IsOnBoard q → q ≡ along m step a → n < m → has beyond q ≡ true
beyond_far beyond set a s q step n m adds ray nearest on there far =
    let steps : q ≡ along (m - n) step s =
    there ∙ ap (λ (i : ℕ). along i step a) (let whole : m ≡ (m - n) + n = omega arith in whole)
    ∙ sym (adds a (m - n) n) ∙ ap (along (m - n) step) (sym nearest.there) in
    (ray.exact q on).1 (empty_slide s q step (m - n) nearest.on_board on (omega arith) steps)

pub not_beyond : (beyond set : List Bool) (a s q : Square) (step : Step) (n m : ℕ) → Adds step → Differs step →
    IsRay beyond s step → IsNearest set a s step n → IsOnBoard q → q ≡ along m step a → m ≤ n → has beyond q ≡ false
not_beyond beyond set a s q step n m adds differs ray nearest on there near =
    false_from_ne_true (has beyond q) (λ here.
    let past = (ray.exact q on).0 here in
    let far : q ≡ along (past.distance + n) step a =
    past.there ∙ ap (along past.distance step) nearest.there ∙ adds a past.distance n in
    let same : m ≡ past.distance + n =
    differs a m (past.distance + n) (subst IsOnBoard there on) (subst IsOnBoard far on) (sym there ∙ far) in
    absurd (omega (arith, past.positive)))
