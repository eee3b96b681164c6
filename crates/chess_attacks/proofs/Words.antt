-- The words of the tables are those of the squares that the rules name.
use Rattle.std.proofs.Common.{ℕ, ◌≡◌, ◌+◌, ◌<◌, ◌≤◌, true, List, [], map, refl, get_or, sym, ap, subst, ◌∙◌, inl, inr, arith}
use Rattle.std.specs.Prelude.{◌↔◌}
use Rattle.std.specs.List.{range_with_len, list_any}
use Rattle.std.proofs.lemmas.Bool.{cases_lt}
use Rattle.std.proofs.lemmas.List.{get_or-map}
use Rattle.std.proofs.lemmas.List.FromFn.{get_or-map-range_with_len}
use Rattle.chess_bits.specs.declared.men.Colour.TheVariants.{White, Black}
use Rattle.chess_bits.specs.declared.steps.Step.{Step}
use Rattle.chess_bits.specs.Square.{Square, IsOnBoard, is_square, square_at}
use Rattle.chess_bits.specs.Table.{put, empty, IsSetOf}
use Rattle.chess_bits.specs.Word.{bools_of}
use Rattle.chess_bits.specs.Attack.{along, north, adjoining, knight_steps, pawn_attacks, Reaches, SlidesAlong}
use Rattle.chess_bits.proofs.TableLemmas.{Decides-is_square, IsOnBoard-square_at}
use Rattle.chess_bits.proofs.AlongLemmas.{along-far, along-between}
use Rattle.chess_bits.proofs.Deciding.{list_any-map, Decides-reaches, Decides-some_from}
use Rattle.chess_attacks.specs.Ways.{ways, way_step}
use Rattle.chess_attacks.specs.declared.tables.TheConstants.{KNIGHT, KING, WHITE_PAWN, BLACK_PAWN, RAYS}
use Rattle.chess_attacks.proofs.Listed.{set_of, word_of_squares, IsSetOf-word, has-empty}

-- the squares one of the steps away
abbrev pub stepped : List Step → Square → List Square
stepped steps a = map (λ step. along 1 step a) steps

-- the squares up to seven steps away
abbrev pub strided : Step → Square → List Square
strided step a = map (λ n. along n step a) (range_with_len 1 7)

-- the word of each square of the board
abbrev pub words_of : (Square → List Square) → List ℕ
words_of list = map (λ n. word_of_squares (list (square_at n))) (range_with_len 0 64)

-- ---- the tables, computed

knights : KNIGHT ≡ words_of (stepped knight_steps)
unfolding set_of put empty
knights = refl

kings : KING ≡ words_of (stepped adjoining)
unfolding set_of put empty
kings = refl

white_pawns : WHITE_PAWN ≡ words_of (stepped (pawn_attacks White))
unfolding set_of put empty
white_pawns = refl

black_pawns : BLACK_PAWN ≡ words_of (stepped (pawn_attacks Black))
unfolding set_of put empty
black_pawns = refl

-- the words of the eight ways from a square
abbrev row_of : ℕ → List ℕ
row_of n = map (λ step. word_of_squares (strided step (square_at n))) ways

rays : RAYS ≡ map row_of (range_with_len 0 64)
unfolding set_of put empty
rays = refl

-- ---- what they say

word_at : (table : List ℕ) (list : Square → List Square) (n : ℕ) (a : Square) → table ≡ words_of list → n < 64 →
    square_at n ≡ a → get_or table n 0 ≡ word_of_squares (list a)
word_at table list n a is below there =
    ap (λ (words : List ℕ). get_or words n 0) is
    ∙ get_or-map-range_with_len (λ k. word_of_squares (list (square_at k))) 0 64 n n 0 below (omega arith)
    ∙ ap (λ (s : Square). word_of_squares (list s)) there

reached : (steps : List Step) (a b : Square) →
    (list_any (is_square b) (stepped steps a) ≡ true) ↔ Reaches steps a b
reached steps a b =
    let same = list_any-map (is_square b) (λ step. along 1 step a) steps in
    let decides = Decides-reaches steps a b in
    ((λ e. decides.0 (sym same ∙ e)), (λ r. same ∙ decides.1 r))

stepped_set : (table : List ℕ) (steps : List Step) (n : ℕ) (a : Square) → table ≡ words_of (stepped steps) → n < 64 →
    square_at n ≡ a → IsSetOf (bools_of 64 (get_or table n 0)) (Reaches steps a)
stepped_set table steps n a is below there =
    IsSetOf-word (get_or table n 0) (stepped steps a) (Reaches steps a)
    (word_at table (stepped steps) n a is below there) (λ b on. reached steps a b)

pub knight_set : (n : ℕ) (a : Square) → n < 64 → square_at n ≡ a →
    IsSetOf (bools_of 64 (get_or KNIGHT n 0)) (Reaches knight_steps a)
knight_set n a below there = stepped_set KNIGHT knight_steps n a knights below there

pub king_set : (n : ℕ) (a : Square) → n < 64 → square_at n ≡ a →
    IsSetOf (bools_of 64 (get_or KING n 0)) (Reaches adjoining a)
king_set n a below there = stepped_set KING adjoining n a kings below there

pub white_pawn_set : (n : ℕ) (a : Square) → n < 64 → square_at n ≡ a →
    IsSetOf (bools_of 64 (get_or WHITE_PAWN n 0)) (Reaches (pawn_attacks White) a)
white_pawn_set n a below there = stepped_set WHITE_PAWN (pawn_attacks White) n a white_pawns below there

pub black_pawn_set : (n : ℕ) (a : Square) → n < 64 → square_at n ≡ a →
    IsSetOf (bools_of 64 (get_or BLACK_PAWN n 0)) (Reaches (pawn_attacks Black) a)
black_pawn_set n a below there = stepped_set BLACK_PAWN (pawn_attacks Black) n a black_pawns below there

-- a square of the board that lies in a way lies at most seven steps off
near : (step : Step) (a b : Square) → IsOnBoard a → IsOnBoard b → (n : ℕ) → 1 ≤ n → b ≡ along n step a →
    (k : ℕ) × (1 ≤ k) × (k < 1 + 7) × (b ≡ along k step a)
near step a b on_a on_b n positive there = elim (cases_lt n 8) [
  | inl close ↦ (n, positive, omega arith, there)
  | inr far ↦ (
    1,
    omega arith,
    omega arith,
    there ∙ along-far n step a on_a far (subst IsOnBoard there on_b),
  )
]

strided_to : (step : Step) (a b : Square) → IsOnBoard a → IsOnBoard b →
    (list_any (is_square b) (strided step a) ≡ true) ↔ SlidesAlong empty a b step
strided_to step a b on_a on_b =
    let same = list_any-map (is_square b) (λ n. along n step a) (range_with_len 1 7) in
    let decides = Decides-some_from (λ n. is_square b (along n step a)) (λ n. b ≡ along n step a) 1 7
    (λ n from below. Decides-is_square b (along n step a)) in (
      (λ e.
          let some = decides.0 (sym same ∙ e) in
          record {
            distance = some.0;
            positive = some.1;
            there = some.3;
            between_empty = λ k from below. has-empty (along k step a)
                (along-between k some.0 step a on_a (omega arith) (subst IsOnBoard some.3 on_b));
          }),
      (λ slide. same ∙ decides.1 (near step a b on_a on_b slide.distance slide.positive slide.there)),
    )

row_at : (n way : ℕ) (a : Square) → n < 64 → way < 8 → square_at n ≡ a →
    get_or (get_or RAYS n []) way 0 ≡ word_of_squares (strided (way_step way) a)
row_at n way a below below_8 there =
    ap (λ (rows : List (List ℕ)). get_or (get_or rows n []) way 0) rays
    ∙ ap (λ (row : List ℕ). get_or row way 0)
    (get_or-map-range_with_len row_of 0 64 n n [] below (omega arith))
    ∙ get_or-map (λ step. word_of_squares (strided step (square_at n))) ways way north 0 below_8
    ∙ ap (λ (s : Square). word_of_squares (strided (way_step way) s)) there

pub ray_set : (n way : ℕ) (a : Square) → n < 64 → way < 8 → square_at n ≡ a →
    IsSetOf (bools_of 64 (get_or (get_or RAYS n []) way 0)) (λ b. SlidesAlong empty a b (way_step way))
ray_set n way a below below_8 there =
    IsSetOf-word (get_or (get_or RAYS n []) way 0) (strided (way_step way) a)
    (λ b. SlidesAlong empty a b (way_step way)) (row_at n way a below below_8 there)
    (λ b on. strided_to (way_step way) a b (subst IsOnBoard there (IsOnBoard-square_at n below)) on)
