use Rattle.std.specs.Prelude.{ℕ, zero, suc, ◌≡◌, ◌+◌, ◌≤◌, Bool, if◌then◌else◌, List, [], ◌∷◌, ◌++◌, map, replicate}
use Rattle.std.specs.Prelude.{Option, Some, None, codes, decimal, slice_index}
use Rattle.std.specs.List.{range_with_len, join_with_byte}
use Rattle.chess_bits.specs.declared.men.Colour.{Colour}
use Rattle.chess_bits.specs.declared.men.Colour.TheVariants.{White, Black}
use Rattle.chess_bits.specs.Man.{Man}
use Rattle.chess_bits.specs.Square.{Square, IsOnBoard, number_of}
use Rattle.chess_board.specs.Position.{Position, Placement, Rights, man_at}
use Rattle.chess_notation.specs.Name.{square_name}
use Rattle.chess_notation.specs.Letters.{letter_of, slash, space}

-- the squares of a rank, from the a-file on
unfoldable pub rank_of : Placement → ℕ → List (Option Man)
rank_of placement rank = map (λ file. man_at placement (record { file = file; rank = rank })) (range_with_len 1 8)

-- the ranks from 8 down to 1
unfoldable pub ranks_of : Placement → List (List (Option Man))
ranks_of placement = map (rank_of placement) (8 ∷ 7 ∷ 6 ∷ 5 ∷ 4 ∷ 3 ∷ 2 ∷ 1 ∷ [])

-- the next square, if there is one, has a man
abbrev pub BeginsWithMan : List (Option Man) → Type 0
BeginsWithMan [] = Unit {0}
BeginsWithMan (None ∷ rest) = ⊥
BeginsWithMan (Some man ∷ rest) = Unit {0}

-- The text of squares in a row: a letter for each man, and a digit for each run of empty squares, which is as long
-- as it can be (PGN Standard, section 16.1.3.1).
pub data IsRowText : List ℕ → List (Option Man) → Type 0 where
  no_squares : IsRowText [] []
  man_then : {text : List ℕ} {rest : List (Option Man)} (here : Man) →
      IsRowText text rest → IsRowText (letter_of here ∷ text) (Some here ∷ rest)
  run_then : {text : List ℕ} {row : List (Option Man)} (n : ℕ) (rest : List (Option Man)) → 1 ≤ n → n ≤ 8 →
      row ≡ replicate n None ++ rest → BeginsWithMan rest → IsRowText text rest → IsRowText ((48 + n) ∷ text) row

-- each text is that of its row
abbrev pub AreRowTexts : List (List ℕ) → List (List (Option Man)) → Type 0
AreRowTexts [] [] = Unit {0}
AreRowTexts [] (row ∷ rows) = ⊥
AreRowTexts (text ∷ texts) [] = ⊥
AreRowTexts (text ∷ texts) (row ∷ rows) = IsRowText text row × AreRowTexts texts rows

-- the ranks from 8 down to 1, with `/` between each two (PGN Standard, section 16.1.3.1)
pub record IsPlacementText (text : List ℕ) (placement : Placement) : Type 0 where
  pub texts : List (List ℕ)
  pub ranks : AreRowTexts texts (ranks_of placement)
  pub joined : text ≡ join_with_byte slash texts

-- `w` or `b` (PGN Standard, section 16.1.3.2)
abbrev pub side_letter : Colour → ℕ
side_letter White = 119
side_letter Black = 98

-- a letter where there is the right
abbrev pub letter_if : Bool → ℕ → List ℕ
letter_if right letter = if right then letter ∷ [] else []

-- `-` in place of nothing
abbrev pub or_dash : List ℕ → List ℕ
or_dash [] = codes "-"
or_dash (letter ∷ letters) = letter ∷ letters

-- the letters K, Q, k and q of the rights that there are, or `-` (PGN Standard, section 16.1.3.3)
abbrev pub rights_text : Rights → List ℕ
rights_text rights = or_dash (letter_if rights.white_king 75 ++ (letter_if rights.white_queen 81 ++
    (letter_if rights.black_king 107 ++ letter_if rights.black_queen 113)))

-- the target's name, or `-` (PGN Standard, section 16.1.3.4)
abbrev pub target_text : Option Square → List ℕ
target_text None = codes "-"
target_text (Some square) = square_name square

-- the six fields, with one space between each two; the counters are decimal (PGN Standard, section 16.1.3)
abbrev pub fields : List ℕ → Position → List (List ℕ)
fields placement p =
    placement ∷ (side_letter p.side ∷ []) ∷ rights_text p.rights ∷ target_text p.target ∷
    decimal p.halfmove ∷ decimal p.fullmove ∷ []

-- the text is the position's FEN
pub record IsFenOf (text : List ℕ) (p : Position) : Type 0 where
  pub placement : List ℕ
  pub is_placement : IsPlacementText placement p.placement
  pub joined : text ≡ join_with_byte space (fields placement p)

-- The same as functions, which compute. The text of a row after n empty squares:
abbrev pub run_text : ℕ → List ℕ
run_text zero = []
run_text (suc n) = (48 + suc n) ∷ []

abbrev pub row_text_after : ℕ → List (Option Man) → List ℕ
row_text_after n [] = run_text n
row_text_after n (None ∷ rest) = row_text_after (n + 1) rest
row_text_after n (Some man ∷ rest) = run_text n ++ (letter_of man ∷ row_text_after 0 rest)

abbrev pub row_text : List (Option Man) → List ℕ
row_text row = row_text_after 0 row

unfoldable pub placement_text : Placement → List ℕ
placement_text placement = join_with_byte slash (map row_text (ranks_of placement))

unfoldable pub fen_of : Position → List ℕ
fen_of p = join_with_byte space (fields (placement_text p.placement) p)

-- the letter of a man, and 0 for none
abbrev pub letter_or_zero : Option Man → ℕ
letter_or_zero None = 0
letter_or_zero (Some man) = letter_of man

-- By the number of its square, each place has the letter of the man there, or 0.
abbrev pub AreLetters : List ℕ → Placement → Type 0
AreLetters letters placement =
    (s : Square) → IsOnBoard s → slice_index letters (number_of s) ≡ letter_or_zero (man_at placement s)
