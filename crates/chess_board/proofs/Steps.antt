-- A man that goes from one square to another, as a change of a placement: what stays and what counts.
use Rattle.std.specs.Prelude.{◌≡◌, ◌≢◌, ◌⊎◌, ◌+◌, ◌≤◌, Bool, cond, ◌&&◌, List, length, Option, Some, None}
use Rattle.std.proofs.Common.{arith, inl, inr, ap, ◌∙◌}
use Rattle.std.proofs.lemmas.Bool.{cond-false, false_from_ne_true}
use Rattle.chess_bits.specs.declared.men.Colour.{Colour}
use Rattle.chess_bits.specs.declared.men.Kind.{Kind}
use Rattle.chess_bits.specs.declared.men.Kind.TheVariants.{King}
use Rattle.chess_bits.specs.Square.{Square, IsOnBoard}
use Rattle.chess_bits.specs.Man.{Man, other, is_colour, is_kind, is_man, is_of, holds}
use Rattle.chess_bits.proofs.ManLemmas.{cases_side, holds-is_man}
use Rattle.chess_board.specs.Position.{man_at, count_of}
use Rattle.chess_board.proofs.Moved.{moved, length-moved, man_at-moved_from, man_at-moved_to, man_at-moved_other, stood_or_put, one_if, count_of-moved}

-- A man of the side goes from `a` to `b`, takes no king and none of its own, and is a `new` there: `t` becomes `u`.
pub record IsStep (t u : List (Option Man)) (side : Colour) (a b : Square) (old new : Kind) : Type 0 where
  pub whole : length t ≡ 64
  pub from_on : IsOnBoard a
  pub to_on : IsOnBoard b
  pub own : man_at t a ≡ Some (side, old)
  pub free : (k : Kind) → man_at t b ≢ Some (side, k)
  pub spared : man_at t b ≢ Some (other side, King)
  pub same_king : is_kind King new ≡ is_kind King old
  pub after : u ≡ moved t a b (Some (side, new))

pub length-step : (t u : List (Option Man)) (side : Colour) (a b : Square) (old new : Kind) →
    IsStep t u side a b old new → length u ≡ 64
length-step t u side a b old new step = rw step.after (length-moved t a b (Some (side, new)) ∙ step.whole)

pub apart-step : (t u : List (Option Man)) (side : Colour) (a b : Square) (old new : Kind) →
    IsStep t u side a b old new → a ≢ b
apart-step t u side a b old new step e = step.free old (rw (← e) step.own)

pub left-step : (t u : List (Option Man)) (side : Colour) (a b : Square) (old new : Kind) →
    IsStep t u side a b old new →
    man_at u a ≡ None
left-step t u side a b old new step =
    rw step.after (man_at-moved_from t a b (Some (side, new)) step.whole step.from_on step.to_on
    (apart-step t u side a b old new step))

pub reached-step : (t u : List (Option Man)) (side : Colour) (a b : Square) (old new : Kind) →
    IsStep t u side a b old new →
    man_at u b ≡ Some (side, new)
reached-step t u side a b old new step = rw step.after (man_at-moved_to t a b (Some (side, new)) step.whole step.to_on)

pub others-step : (t u : List (Option Man)) (side : Colour) (a b : Square) (old new : Kind) (q : Square) →
    IsStep t u side a b old new →
    q ≢ a → q ≢ b → man_at u q ≡ man_at t q
others-step t u side a b old new q step not_a not_b =
    rw step.after (man_at-moved_other t a b q (Some (side, new)) step.whole step.from_on step.to_on not_a not_b)

pub stood-step : (t u : List (Option Man)) (side : Colour) (a b : Square) (old new : Kind) (q : Square) (man : Man) →
    IsStep t u side a b old new → man_at u q ≡ Some man →
    ((q ≡ b) × (Some (side, new) ≡ Some man)) ⊎ (man_at t q ≡ Some man)
stood-step t u side a b old new q man step here =
    stood_or_put t a b q (Some (side, new)) man step.whole step.from_on step.to_on (rw step.after at here)

count_of-step : (is : Man → Bool) (t u : List (Option Man)) (side : Colour) (a b : Square) (old new : Kind) →
    IsStep t u side a b old new →
    one_if is (Some (side, new)) ≡ one_if is (Some (side, old)) →
    count_of is u + one_if is (man_at t b) ≡ count_of is t
count_of-step is t u side a b old new step same =
    let counted : count_of is (moved t a b (Some (side, new))) + one_if is (man_at t a) + one_if is (man_at t b) ≡
    count_of is t + one_if is (Some (side, new)) =
    count_of-moved is t a b (Some (side, new)) step.whole step.from_on step.to_on
    (apart-step t u side a b old new step) in
    let after : count_of is u ≡ count_of is (moved t a b (Some (side, new))) = ap (count_of is) step.after in
    let left : one_if is (man_at t a) ≡ one_if is (Some (side, old)) = ap (one_if is) step.own in
    omega arith

no_king_there : (o : Option Man) (side c : Colour) → ((k : Kind) → o ≢ Some (side, k)) → o ≢ Some (other side, King) →
    one_if (is_man (c, King)) o ≡ 0
no_king_there o side c free spared =
    cond-false (holds (is_man (c, King)) o) 1 0 (false_from_ne_true (holds (is_man (c, King)) o) (λ e.
    let here : o ≡ Some (c, King) = holds-is_man (c, King) o e in
    elim (cases_side side c) [
      | inl own ↦ free King (rw own at here)
      | inr opponent ↦ spared (rw opponent at here)
    ]))

-- no king comes or goes
pub kings-step : (t u : List (Option Man)) (side : Colour) (a b : Square) (old new : Kind) (c : Colour) →
    IsStep t u side a b old new →
    count_of (is_man (c, King)) u ≡ count_of (is_man (c, King)) t
kings-step t u side a b old new c step =
    let counted = count_of-step (is_man (c, King)) t u side a b old new step
    (ap (λ (same : Bool). cond (is_colour c side && same) 1 0) step.same_king) in
    let none = no_king_there (man_at t b) side c step.free step.spared in
    omega arith

-- no man is added
pub men-step : (t u : List (Option Man)) (side : Colour) (a b : Square) (old new : Kind) (c : Colour) →
    IsStep t u side a b old new →
    count_of (is_of c) u ≤ count_of (is_of c) t
men-step t u side a b old new c step =
    let counted = count_of-step (is_of c) t u side a b old new step (λ i. one_if (is_of c) (Some (side, old))) in
    omega arith
