-- What changes between two boards, and the texts of their ranks.
use Rattle.std.proofs.Common.{ℕ, ◌≡◌, ◌≢◌, ◌≤◌, ◌<◌, Bool, true, false, ◌||◌, List, ◌∷◌, ◌++◌, length, get_or, set, refl, ap, sym, ◌∙◌, inl, inr, arith, length-append, take, replicate, ◌+◌, ◌-◌}
use Rattle.std.specs.List.{list_any}
use Rattle.std.specs.Prelude.{slice_index_or, ◌==◌}
use Rattle.std.proofs.lemmas.Bool.{cases_Bool, false≢true}
use Rattle.std.proofs.lemmas.Bool.Decides.{Decides-eqb}
use Rattle.std.proofs.lemmas.List.{get_or-set_same, get_or-set_other, get_or-replicate, get_or-take, length-take-le}
use Rattle.std.proofs.Math.Seq.{take-append-add, take-append_seam, get_or-append_right}
use Rattle.chess_bits.specs.Square.{Square, IsOnBoard, is_square, number_of, square}
use Rattle.chess_bits.specs.Table.{has}
use Rattle.chess_bits.proofs.TableLemmas.{is_square-true, is_square-false, number_of-below}
use Rattle.chess_board.specs.Position.{Placement, man_at}
use Rattle.chess_notation.specs.Fen.{rank_of, row_text, letter_or_zero}
use Rattle.chess_fen.specs.Shown.{TellsRanks, IsRankText, filled_up}
use Rattle.chess_fen.specs.declared.shown.RankText.{RankText}
use Rattle.chess_fen.proofs.LetterLemmas.{other_place}

-- ---- letters and ranks, square by square

-- a square that is left neither before nor now has its man's letter
pub relettered : (letters : List ℕ) (men : Placement) (q s : Square) (rest : List Square) → length letters ≡ 64 →
    IsOnBoard q → IsOnBoard s → list_any (is_square s) rest ≡ false →
    (list_any (is_square s) (q ∷ rest) ≡ false → get_or letters (number_of s) 0 ≡ letter_or_zero (man_at men s)) →
    get_or (set letters (number_of q) (letter_or_zero (man_at men q))) (number_of s) 0 ≡ letter_or_zero (man_at men s)
relettered letters men q s rest whole on_q on_s gone before = elim (cases_Bool (is_square s q)) [
  | inl same ↦
      let below : number_of q < length letters = omega (arith, number_of-below q on_q) in
      ap (λ (x : Square). get_or (set letters (number_of q) (letter_or_zero (man_at men q))) (number_of x) 0)
      (is_square-true s q same)
      ∙ get_or-set_same letters (number_of q) (letter_or_zero (man_at men q)) 0 below
      ∙ ap (λ (x : Square). letter_or_zero (man_at men x)) (sym (is_square-true s q same))
  | inr apart ↦
      other_place letters q s (letter_or_zero (man_at men q)) on_q on_s (is_square-false s q apart)
      ∙ before (ap (λ (b : Bool). b || list_any (is_square s) rest) apart ∙ gone)
]

-- and its rank is told
pub touched_rank : (touched : List Bool) (q s : Square) (rest : List Square) → length touched ≡ 9 → q.rank ≤ 8 →
    list_any (is_square s) rest ≡ false →
    (list_any (is_square s) (q ∷ rest) ≡ false → get_or touched s.rank false ≡ true) →
    get_or (set touched q.rank true) s.rank false ≡ true
touched_rank touched q s rest whole high gone before = elim (cases_Bool (q.rank == s.rank)) [
  | inl same ↦
      let e : q.rank ≡ s.rank = (Decides-eqb q.rank s.rank).0 same in
      let below : q.rank < length touched = omega (arith, whole, high) in
      ap (λ (n : ℕ). get_or (set touched q.rank true) n false) (sym e)
      ∙ get_or-set_same touched q.rank true false below
  | inr other ↦
      let ne : s.rank ≢ q.rank = λ (e : s.rank ≡ q.rank). false≢true (sym other ∙ (Decides-eqb q.rank s.rank).1 (sym e)) in
      let apart : is_square s q ≡ false = elsewhere s q ne in
      get_or-set_other touched q.rank s.rank true false ne
      ∙ before (ap (λ (b : Bool). b || list_any (is_square s) rest) apart ∙ gone)
]
  where
    elsewhere : (s q : Square) → s.rank ≢ q.rank → is_square s q ≡ false
    elsewhere s q ne = elim (cases_Bool (is_square s q)) [
      | inl same ↦ absurd (ne (ap (λ (x : Square). x.rank) (is_square-true s q same)))
      | inr apart ↦ apart
    ]

cons-same : {A : Type 0} (a b : A) (xs ys : List A) → a ≡ b → xs ≡ ys → a ∷ xs ≡ b ∷ ys
cons-same {A = A} a b xs ys e f = ap (λ (x : A). x ∷ xs) e ∙ ap (λ (t : List A). b ∷ t) f

-- a rank on which all squares are as they were
pub same_rank : (old new : Placement) (rank : ℕ) →
    ((file : ℕ) → 1 ≤ file → file ≤ 8 → man_at old (square file rank) ≡ man_at new (square file rank)) →
    rank_of old rank ≡ rank_of new rank
unfolding rank_of
same_rank old new rank h =
    cons-same _ _ _ _ (h 1 (omega arith) (omega arith)) (cons-same _ _ _ _ (h 2 (omega arith) (omega arith))
    (cons-same _ _ _ _ (h 3 (omega arith) (omega arith)) (cons-same _ _ _ _ (h 4 (omega arith) (omega arith))
    (cons-same _ _ _ _ (h 5 (omega arith) (omega arith)) (cons-same _ _ _ _ (h 6 (omega arith) (omega arith))
    (cons-same _ _ _ _ (h 7 (omega arith) (omega arith)) (cons-same _ _ _ _ (h 8 (omega arith) (omega arith)) refl)))))))

-- ---- ranks in turn

-- the ranks from one up to another, which is not among them, have their texts
abbrev pub AreTextsFrom : ℕ → ℕ → List RankText → Placement → Type 0
AreTextsFrom from until texts placement = (rank : ℕ) (d : RankText) → from ≤ rank → rank < until →
    IsRankText (slice_index_or texts (rank - 1) d) placement rank

-- ---- for the calls

pub ranks_told : (old new : Placement) (changed touched : List Bool) →
    ((s : Square) → has changed s ≡ false → man_at old s ≡ man_at new s) →
    ((s : Square) → IsOnBoard s → has changed s ≡ true → slice_index_or touched s.rank false ≡ true) →
    TellsRanks old new touched
ranks_told old new changed touched same told = λ rank low high none. same_rank old new rank
    (λ file from to. elim (cases_Bool (has changed (square file rank))) [
      | inl here ↦ absurd (false≢true (sym none ∙ told (square file rank)
          (record { file_from = from; file_to = to; rank_from = low; rank_to = high }) here))
      | inr away ↦ same (square file rank) away
    ])

-- ---- a text that is filled up

strokes_behind : (text : List ℕ) → length text ≤ 8 → filled_up text ≡ text ++ take (8 - length text) (replicate 8 47)
strokes_behind text short =
    let e : 8 ≡ length text + (8 - length text) = omega arith in
    ap (λ (n : ℕ). take n (text ++ replicate 8 47)) e ∙ take-append-add text (replicate 8 47) (8 - length text)

pub filled-shown : (text : List ℕ) → length text ≤ 8 → take (length text) (filled_up text) ≡ text
filled-shown text short =
    ap (take (length text)) (strokes_behind text short) ∙ take-append_seam text (take (8 - length text) (replicate 8 47))

pub filled-whole : (text : List ℕ) → length (filled_up text) ≡ 8
filled-whole text = length-take-le 8 (text ++ replicate 8 47)
    (omega (arith, length-append text (replicate 8 47)))

pub stroke-at : (text : List ℕ) (n : ℕ) → length text ≤ n → n < length text + 8 →
    get_or (text ++ replicate 8 47) n 0 ≡ 47
stroke-at text n from to = get_or-append_right text (replicate 8 47) n 0 from
    ∙ get_or-replicate 8 (n - length text) 47 0 (omega arith)

pub filled-cut : (text : List ℕ) → length text < 8 → get_or (filled_up text) (length text) 0 ≡ 47
filled-cut text short = get_or-take 8 (text ++ replicate 8 47) (length text) 0 short
    ∙ stroke-at text (length text) (omega arith) (omega arith)

pub rank_filled : (written : List ℕ) (text : RankText) (placement : Placement) (rank : ℕ) →
    written ≡ row_text (rank_of placement rank) → length written ≤ 8 → text.end ≡ length written →
    text.filled.bytes ≡ filled_up written → IsRankText text placement rank
rank_filled written text placement rank row short end filled = record {
  is = ap (λ (n : ℕ). take n text.filled.bytes) end ∙ ap (take (length written)) filled ∙ filled-shown written short ∙ row;
  filled = record {
    whole = ap length filled ∙ filled-whole written;
    within = omega (arith, end, short);
    cut = λ less. ap (λ (n : ℕ). get_or text.filled.bytes n 0) end
        ∙ ap (λ (bytes : List ℕ). get_or bytes (length written) 0) filled
        ∙ filled-cut written (omega (arith, end, less));
  };
}
