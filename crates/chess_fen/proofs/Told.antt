-- How far a placement's text has told the men, square after square from a8 to h8 and on down to h1.
use Rattle.std.proofs.Common.{◌≡◌, ◌≢◌, ℕ, zero, suc, ◌+◌, ◌-◌, ◌*◌, ◌/◌, ◌%◌, ◌<◌, ◌≤◌, List, [], ◌∷◌, ◌++◌, length, replicate, Option, Some, None, refl, ap, ◌∙◌, sym, inl, inr, arith}
use Rattle.std.proofs.lemmas.Bool.{cases_eq, cases_lt}
use Rattle.std.proofs.lemmas.List.{get_or-replicate, length-map}
use Rattle.std.proofs.lemmas.List.FromFn.{length-range_with_len}
use Rattle.chess_bits.specs.declared.men.Colour.TheVariants.{White, Black}
use Rattle.chess_bits.specs.declared.men.Kind.TheVariants.{Pawn, Knight, Bishop, Rook, Queen, King}
use Rattle.chess_bits.specs.Man.{Man}
use Rattle.chess_bits.specs.Square.{Square, square, IsOnBoard, number_of}
use Rattle.chess_bits.specs.Table.{put}
use Rattle.chess_bits.proofs.TableLemmas.{same_square, same_table, at-on_board, at-put_same, at-put_other, number_of-below}
use Rattle.chess_board.specs.Position.{man_at}
use Rattle.chess_notation.specs.Letters.{letter_of}
use Rattle.chess_notation.specs.Fen.{IsRowText, no_squares, man_then, run_then, rank_of, row_text, placement_text}
use Rattle.chess_fen.proofs.ReadBack.{47<letter_of, squares_in, squares_in-letter_of}
use Rattle.chess_fen.proofs.Rows.{squares_from, squares_from-next, rank_of-squares_from, row_text-IsRowText, IsRowText-row_text}
use Rattle.chess_fen.proofs.Ranks.{ranks_below, placement_text-ranks_below, ranks_below-next, ranks_below-last}

-- a letter stands for one man
letter_of-injective : (a b : Man) → letter_of a ≡ letter_of b → a ≡ b
letter_of-injective a b e =
    let one : Some a ∷ [] ≡ Some b ∷ [] = sym (squares_in-letter_of a) ∙ (ap squares_in e ∙ squares_in-letter_of b) in cc

-- the place of a square in that order
abbrev pub place_of : Square → ℕ
place_of s = 8 * (8 - s.rank) + (s.file - 1)

-- Up to a place the men are told, from there on none is, and the rest of the text is that of the squares from there on.
pub record IsTold (p : List (Option Man)) (rest : List ℕ) (men : List (Option Man)) (place : ℕ) : Type 0 where
  pub rank : ℕ
  pub file : ℕ
  pub rank_from : 1 ≤ rank
  pub rank_to : rank ≤ 8
  pub file_from : 1 ≤ file
  pub file_to : file ≤ 9
  pub here : place + 8 * rank ≡ 63 + file
  pub spelled : rest ≡ row_text (squares_from p rank file (9 - file)) ++ ranks_below p rank
  pub before : (s : Square) → IsOnBoard s → place_of s < place → man_at men s ≡ man_at p s
  pub after : (s : Square) → IsOnBoard s → place ≤ place_of s → man_at men s ≡ None

pub told_start : (p : List (Option Man)) → IsTold p (placement_text p) (replicate 64 None) 0
told_start p = record {
  rank = 8;
  file = 1;
  rank_from = omega arith;
  rank_to = omega arith;
  file_from = omega arith;
  file_to = omega arith;
  here = omega arith;
  spelled = placement_text-ranks_below p ∙ ap (λ row. row_text row ++ ranks_below p 8) (rank_of-squares_from p 8);
  before = λ s on below. absurd (omega arith);
  after = λ s on past. at-on_board None (replicate 64 None) s on
      ∙ get_or-replicate 64 (number_of s) None None (number_of-below s on);
}

-- What begins with a character and is a row's text with the text of the ranks below it.
data Head (row : List (Option Man)) (below : List ℕ) (c : ℕ) (rest : List ℕ) : Type 0 where
  row_over : row ≡ [] → below ≡ c ∷ rest → Head row below c rest
  man_first : (man : Man) (more : List (Option Man)) → row ≡ Some man ∷ more → c ≡ letter_of man →
      rest ≡ row_text more ++ below → Head row below c rest
  run_first : (n : ℕ) (more : List (Option Man)) → 1 ≤ n → n ≤ 8 → row ≡ replicate n None ++ more → c ≡ 48 + n →
      rest ≡ row_text more ++ below → Head row below c rest

head_of : {text : List ℕ} {row : List (Option Man)} → IsRowText text row → (below : List ℕ) (c : ℕ) (rest : List ℕ) →
    c ∷ rest ≡ text ++ below → Head row below c rest
head_of no_squares below c rest e = row_over refl (sym e)
head_of (man_then {text} {rest = more} here h) below c rest e =
    let first : c ≡ letter_of here = cc in
    let others : rest ≡ text ++ below = cc in
    man_first here more refl first (others ∙ ap (λ t. t ++ below) (IsRowText-row_text h))
head_of (run_then {text} {row} n more low high is begins h) below c rest e =
    let first : c ≡ 48 + n = cc in
    let others : rest ≡ text ++ below = cc in
    run_first n more low high is first (others ∙ ap (λ t. t ++ below) (IsRowText-row_text h))

-- nothing is left
no_row : {text : List ℕ} {row : List (Option Man)} → IsRowText text row → (below : List ℕ) →
    [] ≡ text ++ below → (row ≡ []) × (below ≡ [])
no_row no_squares below e = (refl, sym e)
no_row (man_then here h) below e = absurd (cc)
no_row (run_then n more low high is begins h) below e = absurd (cc)

length-squares_from : (p : List (Option Man)) (rank file n : ℕ) → length (squares_from p rank file n) ≡ n
unfolding squares_from
length-squares_from p rank file n = length-map _ _ ∙ length-range_with_len file n

row_is_text : (p : List (Option Man)) (rank file : ℕ) → 1 ≤ file →
    IsRowText (row_text (squares_from p rank file (9 - file))) (squares_from p rank file (9 - file))
row_is_text p rank file h =
    row_text-IsRowText (squares_from p rank file (9 - file)) (omega (arith, length-squares_from p rank file (9 - file)))

told_head : (p : List (Option Man)) (c : ℕ) (rest : List ℕ) (men : List (Option Man)) (place : ℕ)
    (h : IsTold p (c ∷ rest) men place) →
    Head (squares_from p h.rank h.file (9 - h.file)) (ranks_below p h.rank) c rest
told_head p c rest men place h = head_of (row_is_text p h.rank h.file h.file_from) (ranks_below p h.rank) c rest h.spelled

-- a row that has a square left is not over
record OneMore (p : List (Option Man)) (rank file : ℕ) (first : Option Man) (more : List (Option Man)) : Type 0 where
  within : file ≤ 8
  man : man_at p (square file rank) ≡ first
  rest : more ≡ squares_from p rank (file + 1) (9 - (file + 1))

one_more : (p : List (Option Man)) (rank file : ℕ) (first : Option Man) (more : List (Option Man)) → file ≤ 9 →
    squares_from p rank file (9 - file) ≡ first ∷ more → OneMore p rank file first more
one_more p rank file first more high e =
    let len : length (squares_from p rank file (9 - file)) ≡ suc (length more) = ap length e in
    let below : file < 9 = omega (arith, length-squares_from p rank file (9 - file)) in
    let next = squares_from-next p rank file below in
    record { within = omega arith; man = cc; rest = cc }

-- a run of empty squares
record Run (p : List (Option Man)) (rank file n : ℕ) (more : List (Option Man)) : Type 0 where
  within : file + n ≤ 9
  empty : (i : ℕ) → i < n → man_at p (square (file + i) rank) ≡ None
  rest : more ≡ squares_from p rank (file + n) (9 - (file + n))

run_of : (p : List (Option Man)) (rank file n : ℕ) (more : List (Option Man)) → file ≤ 9 →
    squares_from p rank file (9 - file) ≡ replicate n None ++ more → Run p rank file n more
run_of p rank file zero more high e = record {
  within = omega arith;
  empty = λ i below. absurd (omega arith);
  rest = sym e ∙ ap (λ f. squares_from p rank f (9 - f)) (omega arith);
}
run_of p rank file (suc n) more high e =
    let first = one_more p rank file None (replicate n None ++ more) high e in
    let others = run_of p rank (file + 1) n more (omega (arith, first.within)) (sym first.rest) in
    record {
      within = omega (arith, others.within);
      empty = λ i below. elim (cases_eq i 0) [
        | inl start ↦ ap (λ k. man_at p (square k rank)) (omega arith) ∙ first.man
        | inr later ↦ ap (λ k. man_at p (square k rank)) (omega arith) ∙ others.empty (i - 1) (omega arith)
      ];
      rest = others.rest ∙ ap (λ f. squares_from p rank f (9 - f)) (omega arith);
    }

-- the ranks below begin with a stroke
record Below (p : List (Option Man)) (rank c : ℕ) (rest : List ℕ) : Type 0 where
  more : 1 < rank
  stroke : c ≡ 47
  next : rest ≡ row_text (rank_of p (rank - 1)) ++ ranks_below p (rank - 1)

below_of : (p : List (Option Man)) (rank c : ℕ) (rest : List ℕ) → ranks_below p rank ≡ c ∷ rest → Below p rank c rest
below_of p rank c rest e = elim (cases_lt 1 rank) [
  | inl more ↦ let next = ranks_below-next p rank more in record { more = more; stroke = cc; next = cc }
  | inr last ↦ let none = ranks_below-last p rank last in absurd (cc)
]

-- no row is left only behind the last file
row_ends : (p : List (Option Man)) (rank file : ℕ) → file ≤ 9 → squares_from p rank file (9 - file) ≡ [] → file ≡ 9
row_ends p rank file high e =
    let len : length (squares_from p rank file (9 - file)) ≡ 0 = ap length e in
    omega (arith, length-squares_from p rank file (9 - file))

-- A letter is no digit.
56<letter_of : (man : Man) → 56 < letter_of man
56<letter_of (White, Pawn) = omega arith
56<letter_of (White, Knight) = omega arith
56<letter_of (White, Bishop) = omega arith
56<letter_of (White, Rook) = omega arith
56<letter_of (White, Queen) = omega arith
56<letter_of (White, King) = omega arith
56<letter_of (Black, Pawn) = omega arith
56<letter_of (Black, Knight) = omega arith
56<letter_of (Black, Bishop) = omega arith
56<letter_of (Black, Rook) = omega arith
56<letter_of (Black, Queen) = omega arith
56<letter_of (Black, King) = omega arith

-- the square at a place
abbrev pub square_of : ℕ → Square
square_of place = square (place % 8 + 1) (8 - place / 8)

pub IsOnBoard-square_of : (place : ℕ) → place < 64 → IsOnBoard (square_of place)
IsOnBoard-square_of place h =
    record { file_from = omega arith; file_to = omega arith; rank_from = omega arith; rank_to = omega arith }

-- squares of the board with one place are one
same_place : (s q : Square) → IsOnBoard s → IsOnBoard q → place_of s ≡ place_of q → s ≡ q
same_place s q on_s on_q e = same_square s q (omega arith) (omega arith)

-- What a letter tells.
pub record ToldMan (p : List (Option Man)) (rest : List ℕ) (men : List (Option Man)) (place : ℕ) (man : Man) : Type 0 where
  pub below : place < 64
  pub told : IsTold p rest (put men (square_of place) (Some man)) (place + 1)

pub told_letter : (p : List (Option Man)) (c : ℕ) (rest : List ℕ) (men : List (Option Man)) (place : ℕ) (man : Man) →
    IsTold p (c ∷ rest) men place → length men ≡ 64 → c ≡ letter_of man → ToldMan p rest men place man
told_letter p c rest men place man h whole letter = elim (told_head p c rest men place h) [
  | row_over row below ↦
      let stroke = (below_of p h.rank c rest below).stroke in absurd (omega (arith, 47<letter_of man))
  | run_first n more low high row digit others ↦ absurd (omega (arith, 56<letter_of man))
  | man_first other more row same others ↦
      let one = one_more p h.rank h.file (Some other) more h.file_to row in
      let is : Some other ≡ Some man = ap Some (letter_of-injective other man (sym same ∙ letter)) in
      let below : place < 64 = omega (arith, h.here, one.within, h.rank_from) in
      let q = square_of place in
      let on_q = IsOnBoard-square_of place below in
      let at_q : q ≡ square h.file h.rank =
      same_place q (square h.file h.rank) on_q (record {
        file_from = h.file_from;
        file_to = one.within;
        rank_from = h.rank_from;
        rank_to = h.rank_to;
      }) (omega (arith, h.here, h.file_from, h.rank_to)) in
      let stands : man_at p q ≡ Some man = ap (man_at p) at_q ∙ (one.man ∙ is) in
      record {
        below = below;
        told = record {
          rank = h.rank;
          file = h.file + 1;
          rank_from = h.rank_from;
          rank_to = h.rank_to;
          file_from = omega arith;
          file_to = omega (arith, one.within);
          here = omega (arith, h.here);
          spelled = others ∙ ap (λ row. row_text row ++ ranks_below p h.rank) one.rest;
          before = λ s on up_to. elim (cases_eq (place_of s) place) [
            | inl here ↦
                let at_s : s ≡ q = same_place s q on on_q (omega arith) in
                ap (man_at (put men q (Some man))) at_s ∙ (at-put_same None men q (Some man) whole on_q
                ∙ (sym stands ∙ ap (man_at p) (sym at_s)))
            | inr other ↦
                at-put_other None men q s (Some man) on_q on
                (λ e. other (ap place_of e ∙ omega arith)) ∙ h.before s on (omega arith)
          ];
          after = λ s on past.
              at-put_other None men q s (Some man) on_q on
              (λ e. let at_q : place_of s ≡ place_of q = ap place_of e in absurd (omega arith))
              ∙ h.after s on (omega arith);
        };
      }
]

-- What a digit tells.
pub record ToldRun (p : List (Option Man)) (rest : List ℕ) (men : List (Option Man)) (place n : ℕ) : Type 0 where
  pub within : place + n ≤ 64
  pub told : IsTold p rest men (place + n)

pub told_digit : (p : List (Option Man)) (c : ℕ) (rest : List ℕ) (men : List (Option Man)) (place n : ℕ) →
    IsTold p (c ∷ rest) men place → c ≡ 48 + n → 1 ≤ n → n ≤ 8 → ToldRun p rest men place n
told_digit p c rest men place n h digit low high = elim (told_head p c rest men place h) [
  | row_over row below ↦ let stroke = (below_of p h.rank c rest below).stroke in absurd (omega arith)
  | man_first other more row same others ↦ absurd (omega (arith, 56<letter_of other))
  | run_first m more low_m high_m row same others ↦
      let count : m ≡ n = omega arith in
      let run = run_of p h.rank h.file n more h.file_to (row ∙ ap (λ k. replicate k None ++ more) count) in
      record {
        within = omega (arith, h.here, run.within, h.rank_from);
        told = record {
          rank = h.rank;
          file = h.file + n;
          rank_from = h.rank_from;
          rank_to = h.rank_to;
          file_from = omega (arith, h.file_from);
          file_to = run.within;
          here = omega (arith, h.here);
          spelled = others ∙ ap (λ row. row_text row ++ ranks_below p h.rank) run.rest;
          before = λ s on up_to. elim (cases_lt (place_of s) place) [
            | inl before ↦ h.before s on before
            | inr past ↦
                let i : ℕ = place_of s - place in
                let at_s : s ≡ square (h.file + i) h.rank =
                same_square s (square (h.file + i) h.rank)
                (omega (arith, h.here, h.file_from, run.within)) (omega (arith, h.here, h.file_from, run.within)) in
                h.after s on past ∙ (sym (run.empty i (omega arith)) ∙ ap (man_at p) (sym at_s))
          ];
          after = λ s on past. h.after s on (omega arith);
        };
      }
]

-- Another character tells nothing.
pub told_other : (p : List (Option Man)) (c : ℕ) (rest : List ℕ) (men : List (Option Man)) (place : ℕ) →
    IsTold p (c ∷ rest) men place → length men ≡ 64 → ((n : ℕ) → 1 ≤ n → n ≤ 8 → c ≢ 48 + n) →
    ((man : Man) → c ≡ letter_of man → 64 ≤ place) → IsTold p rest men place
told_other p c rest men place h whole no_digit no_letter = elim (told_head p c rest men place h) [
  | run_first n more low high row digit others ↦ absurd (no_digit n low high digit)
  | man_first man more row letter others ↦
      let told = told_letter p c rest men place man h whole letter in
      absurd (omega (arith, told.below, no_letter man letter))
  | row_over row below ↦
      let next = below_of p h.rank c rest below in
      let ends : h.file ≡ 9 = row_ends p h.rank h.file h.file_to row in
      record {
        rank = h.rank - 1;
        file = 1;
        rank_from = omega (arith, next.more);
        rank_to = omega (arith, h.rank_to);
        file_from = omega arith;
        file_to = omega arith;
        here = omega (arith, h.here, ends, next.more);
        spelled = next.next
            ∙ ap (λ row. row_text row ++ ranks_below p (h.rank - 1)) (rank_of-squares_from p (h.rank - 1));
        before = h.before;
        after = h.after;
      }
]

-- All is told where no text is left.
pub told_end : (p men : List (Option Man)) (place : ℕ) → IsTold p [] men place → length men ≡ 64 → length p ≡ 64 → men ≡ p
told_end p men place h whole whole_p =
    let over = no_row (row_is_text p h.rank h.file h.file_from) (ranks_below p h.rank) h.spelled in
    let ends : h.file ≡ 9 = row_ends p h.rank h.file h.file_to over.0 in
    let last : h.rank ≤ 1 = elim (cases_lt 1 h.rank) [
      | inl more ↦
          let next : ranks_below p h.rank ≡ 47 ∷ (row_text (rank_of p (h.rank - 1)) ++ ranks_below p (h.rank - 1)) =
          ranks_below-next p h.rank more in
          let none : ranks_below p h.rank ≡ [] = over.1 in
          absurd (cc)
      | inr last ↦ last
    ] in
    same_table None men p whole whole_p (λ s on. h.before s on (omega (arith, h.here, ends, last, h.rank_from)))
