-- Sets of squares that are listed one by one, and the words that stand for them.
use Rattle.std.proofs.Common.{ℕ, ◌≡◌, ◌+◌, ◌*◌, ◌/◌, ◌%◌, Bool, true, false, cond, eqb, ◌||◌, List, [], ◌∷◌, length, replicate, refl, ap, sym, ◌∙◌, inl, inr, arith}
use Rattle.std.specs.Prelude.{◌↔◌}
use Rattle.std.specs.List.{filter, list_any}
use Rattle.std.proofs.lemmas.Bool.{cases_Bool, false≢true}
use Rattle.std.proofs.lemmas.Bool.Decides.{nat_tests}
use Rattle.std.proofs.lemmas.List.{length-replicate, get_or-replicate}
use Rattle.chess_bits.specs.Square.{Square, IsOnBoard, on_board, is_square, number_of}
use Rattle.chess_bits.specs.Table.{has, put, empty, IsSetOf}
use Rattle.chess_bits.specs.Word.{bools_of, word_of}
use Rattle.chess_bits.proofs.TableLemmas.{at-put, at-on_board, IsOnBoard-from_test, on_board-true, is_square-other, length-put, number_of-below}
use Rattle.chess_bits.proofs.MemberLemmas.{filter-here, filter-not_here}

-- the set of the squares of a list
unfoldable pub set_of : List Square → List Bool
set_of [] = empty
set_of (s ∷ ss) = put (set_of ss) s true

-- those of a list that are on the board
abbrev pub inside : List Square → List Square
inside ss = filter on_board ss

-- the word of the squares of a list
abbrev pub word_of_squares : List Square → ℕ
word_of_squares ss = word_of (set_of (inside ss))

even_half : (b : Bool) (n : ℕ) → (cond b 1 0 + 2 * n) / 2 ≡ n
even_half true n = omega arith
even_half false n = omega arith

lowest_bit : (b : Bool) (n : ℕ) → eqb ((cond b 1 0 + 2 * n) % 2) 1 ≡ b
lowest_bit true n = grind (arith, nat_tests)
lowest_bit false n = grind (arith, nat_tests)

-- a list of tests is that of its word
pub bools_of-word_of : (bs : List Bool) → bools_of (length bs) (word_of bs) ≡ bs
unfolding bools_of
bools_of-word_of [] = refl
bools_of-word_of (b ∷ bs) =
    ap (λ (x : Bool). x ∷ bools_of (length bs) ((cond b 1 0 + 2 * word_of bs) / 2)) (lowest_bit b (word_of bs))
    ∙ ap (λ (n : ℕ). b ∷ bools_of (length bs) n) (even_half b (word_of bs))
    ∙ ap (λ (rest : List Bool). b ∷ rest) (bools_of-word_of bs)

pub length-empty : length empty ≡ 64
unfolding empty
length-empty = length-replicate 64 false

pub length-set_of : (ss : List Square) → length (set_of ss) ≡ 64
unfolding set_of
length-set_of [] = length-empty
length-set_of (s ∷ ss) = length-put (set_of ss) s true ∙ length-set_of ss

-- the empty set has no square
pub has-empty : (s : Square) → IsOnBoard s → has empty s ≡ false
unfolding empty
has-empty s on =
    at-on_board false (replicate 64 false) s on
    ∙ get_or-replicate 64 (number_of s) false false (number_of-below s on)

cond_either : (x y : Bool) → cond x true y ≡ (x || y)
cond_either true y = refl
cond_either false y = refl

-- the squares of the board in a list
pub has-set_of : (ss : List Square) (b : Square) → IsOnBoard b →
    has (set_of (inside ss)) b ≡ list_any (is_square b) ss
unfolding set_of
has-set_of [] b on = has-empty b on
has-set_of (s ∷ ss) b on = elim (cases_Bool (on_board s)) [
  | inl there ↦
      ap (λ (xs : List Square). has (set_of xs) b) (filter-here on_board s ss there)
      ∙ at-put false (set_of (inside ss)) s b true (length-set_of (inside ss)) (IsOnBoard-from_test s there)
      ∙ cond_either (is_square b s) (has (set_of (inside ss)) b)
      ∙ ap (λ (x : Bool). is_square b s || x) (has-set_of ss b on)
  | inr off ↦
      ap (λ (xs : List Square). has (set_of xs) b) (filter-not_here on_board s ss off)
      ∙ has-set_of ss b on
      ∙ ap (λ (x : Bool). x || list_any (is_square b) ss)
      (sym (is_square-other b s (λ e. false≢true (sym off ∙ ap on_board (sym e) ∙ on_board-true b on))))
]

-- the set of a listed word
pub IsSetOf-word : (w : ℕ) (ss : List Square) (P : Square → Type 0) → w ≡ word_of_squares ss →
    ((b : Square) → IsOnBoard b → (list_any (is_square b) ss ≡ true) ↔ P b) → IsSetOf (bools_of 64 w) P
IsSetOf-word w ss P is exact =
    let set : List Bool = set_of (inside ss) in
    let shown : bools_of 64 w ≡ set =
    ap (bools_of 64) is ∙ ap (λ (n : ℕ). bools_of n (word_of set)) (sym (length-set_of (inside ss)))
    ∙ bools_of-word_of set in
    record {
      whole = ap length shown ∙ length-set_of (inside ss);
      exact = λ b on.
          let here : has (bools_of 64 w) b ≡ list_any (is_square b) ss =
          ap (λ (bs : List Bool). has bs b) shown ∙ has-set_of ss b on in
          ((λ e. (exact b on).0 (sym here ∙ e)), (λ p. here ∙ (exact b on).1 p));
    }
