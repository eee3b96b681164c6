-- The text of a row is the one that `row_text` computes.
use Rattle.std.proofs.Common.{◌≡◌, ℕ, zero, suc, ◌+◌, ◌-◌, ◌≤◌, ◌<◌, List, [], ◌∷◌, ◌++◌, length, map, replicate, Option, Some, None, refl, ap, ◌∙◌, sym, subst, arith, add-one, append_assoc}
use Rattle.std.specs.List.{range_with_len}
use Rattle.chess_board.specs.Position.{man_at}
use Rattle.chess_bits.specs.Man.{Man}
use Rattle.chess_notation.specs.Letters.{letter_of}
use Rattle.chess_notation.specs.Fen.{rank_of, BeginsWithMan, IsRowText, no_squares, man_then, run_then, run_text, row_text, row_text_after}

-- empty squares are counted
pub row_text_after-replicate : (k n : ℕ) (rest : List (Option Man)) →
    row_text_after k (replicate n None ++ rest) ≡ row_text_after (k + n) rest
row_text_after-replicate k zero rest = ap (λ m. row_text_after m rest) (omega arith)
row_text_after-replicate k (suc n) rest =
    row_text_after-replicate (k + 1) n rest ∙ ap (λ m. row_text_after m rest) (omega arith)

-- a run ends before a man
pub row_text_after-man : (n : ℕ) (rest : List (Option Man)) → BeginsWithMan rest →
    row_text_after n rest ≡ run_text n ++ row_text rest
row_text_after-man zero [] h = refl
row_text_after-man (suc n) [] h = refl
row_text_after-man n (None ∷ rest) h = elim h [ ]
row_text_after-man n (Some here ∷ rest) h = refl

-- the digit of a run
pub run_text-digit : (n : ℕ) → 1 ≤ n → run_text n ≡ (48 + n) ∷ []
run_text-digit zero h = absurd (omega arith)
run_text-digit (suc n) h = refl

-- what is the text of a row is what `row_text` computes
pub IsRowText-row_text : {text : List ℕ} {row : List (Option Man)} → IsRowText text row → text ≡ row_text row
IsRowText-row_text no_squares = refl
IsRowText-row_text (man_then {text} {rest} here h) = ap (λ t. letter_of here ∷ t) (IsRowText-row_text h)
IsRowText-row_text (run_then {text} {row} n rest low high e begins h) =
    ap (λ t. (48 + n) ∷ t) (IsRowText-row_text h)
    ∙ (sym (ap (λ d. d ++ row_text rest) (run_text-digit n low))
    ∙ (sym (row_text_after-man n rest begins)
    ∙ (ap (λ m. row_text_after m rest) (omega arith)
    ∙ (sym (row_text_after-replicate 0 n rest) ∙ ap row_text (sym e)))))

-- one more empty square
replicate-more : (n : ℕ) (rest : List (Option Man)) →
    replicate (suc n) None ++ rest ≡ replicate n None ++ (None ∷ rest)
replicate-more zero rest = refl
replicate-more (suc n) rest = ap (λ t. None ∷ t) (replicate-more n rest)

-- a run, if there is one, before what begins with a man
run_before : (n : ℕ) (text : List ℕ) (rest : List (Option Man)) → n ≤ 8 → BeginsWithMan rest →
    IsRowText text rest → IsRowText (run_text n ++ text) (replicate n None ++ rest)
run_before zero text rest high begins h = h
run_before (suc n) text rest high begins h = run_then (suc n) rest (omega arith) high refl begins h

-- what `row_text` computes is the text of the row
pub row_text_after-IsRowText : (n : ℕ) (rest : List (Option Man)) → n + length rest ≤ 8 →
    IsRowText (row_text_after n rest) (replicate n None ++ rest)
row_text_after-IsRowText zero [] h = no_squares
row_text_after-IsRowText (suc n) [] h = run_then (suc n) [] (omega arith) (omega arith) refl tt no_squares
row_text_after-IsRowText n (None ∷ rest) h =
    subst (λ row. IsRowText (row_text_after (n + 1) rest) row)
    (ap (λ m. replicate m None ++ rest) (add-one n) ∙ replicate-more n rest)
    (row_text_after-IsRowText (n + 1) rest (omega arith))
row_text_after-IsRowText n (Some here ∷ rest) h =
    run_before n _ (Some here ∷ rest) (omega arith) tt (man_then here (row_text_after-IsRowText 0 rest (omega arith)))

pub row_text-IsRowText : (row : List (Option Man)) → length row ≤ 8 → IsRowText (row_text row) row
row_text-IsRowText row h = row_text_after-IsRowText 0 row (omega arith)

-- the squares of a rank from a file on
unfoldable pub squares_from : List (Option Man) → ℕ → ℕ → ℕ → List (Option Man)
squares_from placement rank file n =
    map (λ file. man_at placement (record { file = file; rank = rank })) (range_with_len file n)

pub rank_of-squares_from : (placement : List (Option Man)) (rank : ℕ) →
    rank_of placement rank ≡ squares_from placement rank 1 8
unfolding rank_of squares_from
rank_of-squares_from placement rank = refl

-- the square on a file, and those after it
pub squares_from-next : (placement : List (Option Man)) (rank file : ℕ) → file < 9 →
    squares_from placement rank file (9 - file) ≡
    man_at placement (record { file = file; rank = rank }) ∷ squares_from placement rank (file + 1) (9 - (file + 1))
unfolding squares_from
squares_from-next placement rank file h =
    let e : 9 - file ≡ suc (9 - (file + 1)) = omega arith in
    ap (squares_from placement rank file) e

-- The rest of a rank's text, after an empty square and after a man.
pub row_text_after-empty : (placement : List (Option Man)) (rank file n : ℕ) → file < 9 →
    man_at placement (record { file = file; rank = rank }) ≡ None →
    row_text_after n (squares_from placement rank file (9 - file)) ≡
    row_text_after (n + 1) (squares_from placement rank (file + 1) (9 - (file + 1)))
row_text_after-empty placement rank file n h e =
    ap (row_text_after n) (squares_from-next placement rank file h
    ∙ ap (λ here. here ∷ squares_from placement rank (file + 1) (9 - (file + 1))) e)

pub row_text_after-stands : (placement : List (Option Man)) (rank file n : ℕ) (here : Man) → file < 9 →
    man_at placement (record { file = file; rank = rank }) ≡ Some here →
    row_text_after n (squares_from placement rank file (9 - file)) ≡
    run_text n ++ (letter_of here ∷ row_text (squares_from placement rank (file + 1) (9 - (file + 1))))
row_text_after-stands placement rank file n here h e =
    ap (row_text_after n) (squares_from-next placement rank file h
    ∙ ap (λ here. here ∷ squares_from placement rank (file + 1) (9 - (file + 1))) e)

-- no square is left
pub row_text_after-end : (placement : List (Option Man)) (rank file n : ℕ) → 9 ≤ file →
    row_text_after n (squares_from placement rank file (9 - file)) ≡ run_text n
unfolding squares_from
row_text_after-end placement rank file n h =
    let e : 9 - file ≡ 0 = omega arith in
    ap (λ m. row_text_after n (squares_from placement rank file m)) e

-- a run and a letter, written one after the other
pub append_run_letter : (text run rest : List ℕ) (letter : ℕ) →
    text ++ (run ++ (letter ∷ rest)) ≡ ((text ++ run) ++ (letter ∷ [])) ++ rest
append_run_letter text run rest letter = simp append_assoc
