-- What slides to a square lies on a line over the empty board.
use Rattle.std.specs.Prelude.{◌≡◌, ◌⊎◌, Bool, true, false, List, [], ◌∷◌, length}
use Rattle.std.proofs.Common.{sym, ◌∙◌, inl, inr}
use Rattle.std.proofs.lemmas.Bool.{false≢true, cases_Bool}
use Rattle.chess_bits.specs.declared.steps.Step.{Step}
use Rattle.chess_bits.specs.Square.{Square, IsOnBoard, on_board}
use Rattle.chess_bits.specs.Table.{has, empty, union, meet, members, IsSetOf}
use Rattle.chess_bits.specs.Attack.{along, SlidesAlong, Slides, straight, diagonal}
use Rattle.chess_bits.proofs.TableLemmas.{at-off_board, on_board-true, IsOnBoard-from_test}
use Rattle.chess_bits.proofs.SetLemmas.{has-none, IsSetOf-union}
use Rattle.chess_attacks.specs.Ways.{way_step}
use Rattle.chess_attacks.proofs.Listed.{has-empty}
use Rattle.chess_moves.proofs.SetForms.{none_set, both_set, set_itself}

nowhere : (q : Square) → has empty q ≡ false
nowhere q = elim (cases_Bool (on_board q)) [
  | inl on ↦ has-empty q (IsOnBoard-from_test q on)
  | inr off ↦ at-off_board false empty q (λ on. false≢true (sym off ∙ on_board-true q on))
]

open_line : (occupied : List Bool) (a b : Square) (direction : Step) → SlidesAlong occupied a b direction →
    SlidesAlong empty a b direction
open_line occupied a b direction slide = record {
  distance = slide.distance;
  positive = slide.positive;
  there = slide.there;
  between_empty = λ k from below. nowhere (along k direction a);
}

-- none of the men is in one of four ways
none_ahead : (square : Square) (men n s e w : List Bool) (d1 d2 d3 d4 : Step) →
    IsSetOf n (λ b. SlidesAlong empty square b d1) → IsSetOf s (λ b. SlidesAlong empty square b d2) →
    IsSetOf e (λ b. SlidesAlong empty square b d3) → IsSetOf w (λ b. SlidesAlong empty square b d4) →
    length men ≡ 64 → members (meet (union (union n s) (union e w)) men) ≡ [] → (c : Square) → IsOnBoard c →
    has men c ≡ true →
    ¬ ((SlidesAlong empty square c d1 ⊎ SlidesAlong empty square c d2) ⊎
    (SlidesAlong empty square c d3 ⊎ SlidesAlong empty square c d4))
none_ahead square men n s e w d1 d2 d3 d4 of_n of_s of_e of_w whole none c on here ahead =
    let Way : Step → Square → Type 0 = λ d b. SlidesAlong empty square b d in
    let Two : Step → Step → Square → Type 0 = λ d f b. Way d b ⊎ Way f b in
    let of_lines : IsSetOf (union (union n s) (union e w)) (λ b. Two d1 d2 b ⊎ Two d3 d4 b) =
    IsSetOf-union (union n s) (union e w) (Two d1 d2) (Two d3 d4) (IsSetOf-union n s (Way d1) (Way d2) of_n of_s)
    (IsSetOf-union e w (Way d3) (Way d4) of_e of_w) in
    let both = both_set (union (union n s) (union e w)) men (λ b. Two d1 d2 b ⊎ Two d3 d4 b) (λ b. has men b ≡ true)
    of_lines (set_itself men whole) in
    false≢true (sym (has-none (meet (union (union n s) (union e w)) men) c on none) ∙ (both.exact c on).1 (ahead, here))

-- so that none of them slides in one of these
no_slider : (square : Square) (occupied men n s e w : List Bool) (d1 d2 d3 d4 : Step) →
    IsSetOf n (λ b. SlidesAlong empty square b d1) → IsSetOf s (λ b. SlidesAlong empty square b d3) →
    IsSetOf e (λ b. SlidesAlong empty square b d2) → IsSetOf w (λ b. SlidesAlong empty square b d4) →
    length men ≡ 64 → members (meet (union (union n s) (union e w)) men) ≡ [] →
    IsSetOf empty (λ c. Slides occupied (d1 ∷ d2 ∷ d3 ∷ d4 ∷ []) square c × (has men c ≡ true))
no_slider square occupied men n s e w d1 d2 d3 d4 of_n of_s of_e of_w whole none =
    none_set (λ c. Slides occupied (d1 ∷ d2 ∷ d3 ∷ d4 ∷ []) square c × (has men c ≡ true))
    (λ c on is.
    none_ahead square men n s e w d1 d3 d2 d4 of_n of_s of_e of_w whole none c on is.1 (elim (is.0) [
      | inl a ↦ inl (inl (open_line occupied square c d1 a))
      | inr (inl a) ↦ inr (inl (open_line occupied square c d2 a))
      | inr (inr (inl a)) ↦ inl (inr (open_line occupied square c d3 a))
      | inr (inr (inr (inl a))) ↦ inr (inr (open_line occupied square c d4 a))
      | inr (inr (inr (inr never))) ↦ absurd never
    ]))

pub no_rook : (square : Square) (occupied men n s e w : List Bool) →
    IsSetOf n (λ b. SlidesAlong empty square b (way_step 0)) → IsSetOf s (λ b. SlidesAlong empty square b (way_step 4)) →
    IsSetOf e (λ b. SlidesAlong empty square b (way_step 2)) → IsSetOf w (λ b. SlidesAlong empty square b (way_step 6)) →
    length men ≡ 64 → members (meet (union (union n s) (union e w)) men) ≡ [] →
    IsSetOf empty (λ c. Slides occupied straight square c × (has men c ≡ true))
no_rook square occupied men n s e w of_n of_s of_e of_w whole none =
    no_slider square occupied men n s e w (way_step 0) (way_step 2) (way_step 4) (way_step 6) of_n of_s of_e of_w whole
    none

pub no_bishop : (square : Square) (occupied men n s e w : List Bool) →
    IsSetOf n (λ b. SlidesAlong empty square b (way_step 1)) → IsSetOf s (λ b. SlidesAlong empty square b (way_step 5)) →
    IsSetOf e (λ b. SlidesAlong empty square b (way_step 3)) → IsSetOf w (λ b. SlidesAlong empty square b (way_step 7)) →
    length men ≡ 64 → members (meet (union (union n s) (union e w)) men) ≡ [] →
    IsSetOf empty (λ c. Slides occupied diagonal square c × (has men c ≡ true))
no_bishop square occupied men n s e w of_n of_s of_e of_w whole none =
    no_slider square occupied men n s e w (way_step 1) (way_step 3) (way_step 5) (way_step 7) of_n of_s of_e of_w whole
    none
