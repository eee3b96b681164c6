-- A ray without the ray of its first blocker holds the squares to which a man slides.
use Rattle.std.proofs.Common.{ℕ, ◌≡◌, ◌≤◌, Bool, true, not, List, [], ap, sym, subst, ◌∙◌, inl, inr, arith, Some}
use Rattle.std.proofs.lemmas.Bool.{cases_lt, false≢true, not-true, and_parts, and_from}
use Rattle.chess_bits.specs.declared.steps.Step.{Step}
use Rattle.chess_bits.specs.Square.{Square, IsOnBoard}
use Rattle.chess_bits.specs.Table.{has, meet, without, members, head_of, empty, IsSetOf, IsGreatest}
use Rattle.chess_bits.specs.Attack.{along, SlidesAlong}
use Rattle.chess_bits.proofs.SetLemmas.{has-meet, has-without, length-without, has-none}
use Rattle.chess_attacks.proofs.WayLemmas.{Adds, Rises, Falls}
use Rattle.chess_attacks.proofs.Nearest.{IsRay, empty_slide, on_ray, second_false, Differs, rises-differs, falls-differs, IsNearest, rising_nearest, falling_nearest, beyond_far, not_beyond}

-- the squares up to a man
abbrev IsSlide : List Bool → List Bool → Square → Step → Type 0
IsSlide set occupied a step = IsSetOf set (λ b. SlidesAlong occupied a b step)

-- Where no square of the ray is occupied, a man slides over all of it.
pub whole_slide : (whole occupied : List Bool) (a : Square) (step : Step) → IsOnBoard a → IsRay whole a step →
    members (meet whole occupied) ≡ [] → IsSlide whole occupied a step
whole_slide whole occupied a step on ray none = record {
  whole = ray.whole;
  exact = λ b on_b. (
    (λ here.
        let slide = (ray.exact b on_b).0 here in
        let there : IsOnBoard (along slide.distance step a) = subst IsOnBoard slide.there on_b in
        record {
          distance = slide.distance;
          positive = slide.positive;
          there = slide.there;
          between_empty = λ j from below.
              let passed = on_ray whole a step slide.distance j on ray there from (omega arith) in
              second_false (has whole (along j step a)) (has occupied (along j step a)) passed.1
              (sym (has-meet whole occupied (along j step a)) ∙ has-none (meet whole occupied) (along j step a) passed.0
              none);
        }),
    (λ slide. (ray.exact b on_b).1 (empty_slide a b step slide.distance on on_b slide.positive slide.there)),
  );
}

-- a man slides no farther than to the nearest one
no_farther : (occupied : List Bool) (a b c : Square) (step : Step) (k : ℕ) → IsNearest occupied a c step k →
    (slide : SlidesAlong occupied a b step) → slide.distance ≤ k
no_farther occupied a b c step k blocker slide = elim (cases_lt k slide.distance) [
  | inl past ↦ absurd (false≢true (sym (slide.between_empty k blocker.positive past)
      ∙ ap (has occupied) (sym blocker.there) ∙ blocker.member))
  | inr within ↦ within
]

-- A ray without that of its blocker.
cut : (whole beyond occupied : List Bool) (a c : Square) (step : Step) (k : ℕ) → IsOnBoard a → Adds step →
    Differs step → IsRay whole a step → IsRay beyond c step → IsNearest occupied a c step k →
    IsSlide (without whole beyond) occupied a step
cut whole beyond occupied a c step k on adds differs ray ray_beyond blocker =
    let len = ray.whole ∙ sym ray_beyond.whole in
    record {
      whole = length-without whole beyond len ∙ ray.whole;
      exact = λ b on_b. (
        (λ here.
            let parts = and_parts (has whole b) (not (has beyond b)) (sym (has-without whole beyond b len) ∙ here) in
            let slide = (ray.exact b on_b).0 parts.0 in
            let not_past : slide.distance ≤ k = elim (cases_lt k slide.distance) [
              | inl past ↦ absurd (false≢true (sym (not-true (has beyond b) parts.1)
                  ∙ beyond_far beyond occupied a c b step k slide.distance adds ray_beyond blocker on_b slide.there past))
              | inr within ↦ within
            ] in
            record {
              distance = slide.distance;
              positive = slide.positive;
              there = slide.there;
              between_empty = λ j from below. blocker.before j from (omega arith);
            }),
        (λ slide.
            let there : IsOnBoard (along slide.distance step a) = subst IsOnBoard slide.there on_b in
            let in_ray : has whole b ≡ true =
            ap (has whole) slide.there ∙ (on_ray whole a step slide.distance slide.distance on ray there slide.positive
            (omega arith)).1 in
            has-without whole beyond b len ∙ and_from (has whole b) (not (has beyond b)) in_ray
            (ap not (not_beyond beyond occupied a c b step k slide.distance adds differs ray_beyond blocker on_b slide.there
            (no_farther occupied a b c step k blocker slide)))),
      );
    }

pub rising_slide : (whole beyond occupied : List Bool) (a c : Square) (step : Step) → IsOnBoard a → Adds step →
    Rises step → IsSetOf whole (λ b. SlidesAlong empty a b step) → IsSetOf beyond (λ b. SlidesAlong empty c b step) →
    Some c ≡ head_of (members (meet whole occupied)) →
    IsSetOf (without whole beyond) (λ b. SlidesAlong occupied a b step)
rising_slide whole beyond occupied a c step on adds rises ray ray_beyond first =
    let (k, blocker) = rising_nearest whole occupied a c step on rises ray first in
    cut whole beyond occupied a c step k on adds (rises-differs step rises) ray ray_beyond blocker

pub falling_slide : (whole beyond occupied : List Bool) (a c : Square) (step : Step) → IsOnBoard a → Adds step →
    Falls step → IsSetOf whole (λ b. SlidesAlong empty a b step) → IsSetOf beyond (λ b. SlidesAlong empty c b step) →
    IsGreatest (meet whole occupied) c → IsSetOf (without whole beyond) (λ b. SlidesAlong occupied a b step)
falling_slide whole beyond occupied a c step on adds falls ray ray_beyond greatest =
    let (k, blocker) = falling_nearest whole occupied a c step on falls ray greatest in
    cut whole beyond occupied a c step k on adds (falls-differs step falls) ray ray_beyond blocker
