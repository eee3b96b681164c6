-- What stands where, and how many men there are, once a man is taken off one square and put on another.
use Rattle.std.specs.Prelude.{ℕ, ◌≡◌, ◌≢◌, ◌⊎◌, ◌+◌, Bool, cond, List, length, Option, Some, None}
use Rattle.std.proofs.Common.{arith, inl, inr, ap, sym, ◌∙◌}
use Rattle.std.proofs.lemmas.Bool.{cases_Bool, cond-true, cond-false}
use Rattle.chess_bits.specs.Square.{Square, IsOnBoard, is_square}
use Rattle.chess_bits.specs.Man.{Man, holds}
use Rattle.chess_bits.specs.Table.{put}
use Rattle.chess_bits.proofs.TableLemmas.{length-put, at-put, at-put_same, count_by-put, is_square-true, is_square-other, is_square-same}
use Rattle.chess_board.specs.Position.{man_at, count_of}

-- a placement with the square `a` left and `man` on the square `b`
abbrev pub moved : List (Option Man) → Square → Square → Option Man → List (Option Man)
moved t a b man = put (put t a None) b man

pub length-moved : (t : List (Option Man)) (a b : Square) (man : Option Man) → length (moved t a b man) ≡ length t
length-moved t a b man = length-put (put t a None) b man ∙ length-put t a None

pub man_at-moved : (t : List (Option Man)) (a b q : Square) (man : Option Man) → length t ≡ 64 → IsOnBoard a →
    IsOnBoard b →
    man_at (moved t a b man) q ≡ cond (is_square q b) man (cond (is_square q a) None (man_at t q))
man_at-moved t a b q man whole on_a on_b =
    rw (← at-put None t a q None whole on_a) (at-put None (put t a None) b q man (length-put t a None ∙ whole) on_b)

pub man_at-moved_to : (t : List (Option Man)) (a b : Square) (man : Option Man) → length t ≡ 64 → IsOnBoard b →
    man_at (moved t a b man) b ≡ man
man_at-moved_to t a b man whole on_b = at-put_same None (put t a None) b man (length-put t a None ∙ whole) on_b

pub man_at-moved_from : (t : List (Option Man)) (a b : Square) (man : Option Man) → length t ≡ 64 → IsOnBoard a →
    IsOnBoard b → a ≢ b →
    man_at (moved t a b man) a ≡ None
man_at-moved_from t a b man whole on_a on_b apart =
    man_at-moved t a b a man whole on_a on_b ∙
    rw (is_square-other a b apart, is_square-same a a (λ i. a))

pub man_at-moved_other : (t : List (Option Man)) (a b q : Square) (man : Option Man) → length t ≡ 64 → IsOnBoard a →
    IsOnBoard b →
    q ≢ a → q ≢ b → man_at (moved t a b man) q ≡ man_at t q
man_at-moved_other t a b q man whole on_a on_b not_a not_b =
    man_at-moved t a b q man whole on_a on_b ∙ rw (is_square-other q a not_a, is_square-other q b not_b)

pub man_at-removed : (t : List (Option Man)) (a q : Square) (man : Man) → length t ≡ 64 → IsOnBoard a →
    man_at (put t a None) q ≡ Some man → man_at t q ≡ Some man
man_at-removed t a q man whole on_a here = elim (cases_Bool (is_square q a)) [
  | inl same ↦ absurd (cc (at-put None t a q None whole on_a, cond-true (is_square q a) None (man_at t q) same))
  | inr other ↦ cc (at-put None t a q None whole on_a, cond-false (is_square q a) None (man_at t q) other)
]

-- who stands somewhere then stood there before, or has been put there
pub stood_or_put : (t : List (Option Man)) (a b q : Square) (man : Option Man) (who : Man) → length t ≡ 64 →
    IsOnBoard a → IsOnBoard b →
    man_at (moved t a b man) q ≡ Some who → ((q ≡ b) × (man ≡ Some who)) ⊎ (man_at t q ≡ Some who)
stood_or_put t a b q man who whole on_a on_b here = elim (cases_Bool (is_square q b)) [
  | inl same ↦ inl (
    is_square-true q b same,
    cc (
      at-put None (put t a None) b q man (length-put t a None ∙ whole) on_b,
      cond-true (is_square q b) man (man_at (put t a None) q) same,
    ),
  )
  | inr other ↦ inr (man_at-removed t a q who whole on_a
      (cc (
        at-put None (put t a None) b q man (length-put t a None ∙ whole) on_b,
        cond-false (is_square q b) man (man_at (put t a None) q) other,
      )))
]

-- one for a man that is so
abbrev pub one_if : (Man → Bool) → Option Man → ℕ
one_if is man = cond (holds is man) 1 0

pub count_of-put : (is : Man → Bool) (t : List (Option Man)) (a : Square) (man : Option Man) → length t ≡ 64 →
    IsOnBoard a →
    count_of is (put t a man) + one_if is (man_at t a) ≡ count_of is t + one_if is man
count_of-put is t a man whole on = count_by-put (λ here. holds is here) None t a man whole on

pub count_of-moved : (is : Man → Bool) (t : List (Option Man)) (a b : Square) (man : Option Man) →
    length t ≡ 64 → IsOnBoard a → IsOnBoard b → a ≢ b →
    count_of is (moved t a b man) + one_if is (man_at t a) + one_if is (man_at t b) ≡ count_of is t + one_if is man
count_of-moved is t a b man whole on_a on_b apart =
    let left : count_of is (put t a None) + one_if is (man_at t a) ≡ count_of is t + 0 =
    count_of-put is t a None whole on_a in
    let reached : count_of is (moved t a b man) + one_if is (man_at (put t a None) b) ≡ count_of is
    (put t a None) + one_if is man =
    count_of-put is (put t a None) b man (length-put t a None ∙ whole) on_b in
    let same : man_at (put t a None) b ≡ man_at t b =
    at-put None t a b None whole on_a ∙
    cond-false (is_square b a) None (man_at t b) (is_square-other b a (λ e. apart (sym e))) in
    omega (arith, ap (one_if is) same)
