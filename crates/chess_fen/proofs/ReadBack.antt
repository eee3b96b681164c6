-- A text is the FEN of one position only: what it says of the ranks, the rights and the target can be read back.
use Rattle.std.proofs.Common.{◌≡◌, ℕ, ◌+◌, ◌-◌, ◌≤◌, ◌<◌, ◌==◌, Bool, true, false, List, [], ◌∷◌, ◌++◌, replicate, Option, Some, None, refl, ap, ◌∙◌, sym, arith}
use Rattle.std.specs.Prelude.{nat_le, if◌then◌else◌}
use Rattle.std.specs.List.{list_any}
use Rattle.std.proofs.lemmas.Bool.{le-leb}
use Rattle.chess_bits.specs.declared.men.Colour.{Colour}
use Rattle.chess_bits.specs.declared.men.Colour.TheVariants.{White, Black}
use Rattle.chess_bits.specs.declared.men.Kind.{Kind}
use Rattle.chess_bits.specs.declared.men.Kind.TheVariants.{Pawn, Knight, Bishop, Rook, Queen, King}
use Rattle.chess_bits.specs.Man.{Man}
use Rattle.chess_bits.specs.Square.{Square}
use Rattle.chess_board.specs.Position.{Rights}
use Rattle.chess_notation.specs.Letters.{letter_of}
use Rattle.chess_fen.proofs.Joined.{AllAbove}
use Rattle.chess_notation.specs.Fen.{IsRowText, no_squares, man_then, run_then, rights_text, side_letter, target_text}

-- the man that a letter stands for
kind_in : ℕ → Kind
kind_in capital =
    if capital == 80 then Pawn else if capital == 78 then Knight else if capital == 66 then Bishop
    else if capital == 82 then Rook else if capital == 81 then Queen else King

man_in : ℕ → Man
man_in letter = if nat_le letter 90 then (White, kind_in letter) else (Black, kind_in (letter - 32))

-- the squares that a character of a row's text stands for
pub squares_in : ℕ → List (Option Man)
squares_in character = if nat_le character 56 then replicate (character - 48) None else Some (man_in character) ∷ []

pub row_in : List ℕ → List (Option Man)
row_in [] = []
row_in (character ∷ text) = squares_in character ++ row_in text

pub squares_in-letter_of : (man : Man) → squares_in (letter_of man) ≡ Some man ∷ []
unfolding squares_in man_in kind_in
squares_in-letter_of (White, Pawn) = refl
squares_in-letter_of (White, Knight) = refl
squares_in-letter_of (White, Bishop) = refl
squares_in-letter_of (White, Rook) = refl
squares_in-letter_of (White, Queen) = refl
squares_in-letter_of (White, King) = refl
squares_in-letter_of (Black, Pawn) = refl
squares_in-letter_of (Black, Knight) = refl
squares_in-letter_of (Black, Bishop) = refl
squares_in-letter_of (Black, Rook) = refl
squares_in-letter_of (Black, Queen) = refl
squares_in-letter_of (Black, King) = refl

squares_in-digit : (n : ℕ) → n ≤ 8 → squares_in (48 + n) ≡ replicate n None
unfolding squares_in
squares_in-digit n h =
    let digit : nat_le (48 + n) 56 ≡ true = le-leb (48 + n) 56 (omega arith) in
    let count : 48 + n - 48 ≡ n = omega arith in
    ap (λ test. if test then replicate (48 + n - 48) None else Some (man_in (48 + n)) ∷ []) digit
    ∙ ap (λ m. replicate m None) count

-- a text is that of one row
pub IsRowText-row_in : {text : List ℕ} {row : List (Option Man)} → IsRowText text row → row ≡ row_in text
unfolding row_in
IsRowText-row_in no_squares = refl
IsRowText-row_in (man_then {text} {rest} here h) =
    ap (λ squares. Some here ∷ squares) (IsRowText-row_in h)
    ∙ ap (λ squares. squares ++ row_in text) (sym (squares_in-letter_of here))
IsRowText-row_in (run_then {text} {row} n rest low high e begins h) =
    e ∙ (ap (λ squares. replicate n None ++ squares) (IsRowText-row_in h)
    ∙ ap (λ squares. squares ++ row_in text) (sym (squares_in-digit n high)))

-- Letters and digits stand above the signs that part ranks and fields.
pub 47<letter_of : (man : Man) → 47 < letter_of man
47<letter_of (White, Pawn) = omega arith
47<letter_of (White, Knight) = omega arith
47<letter_of (White, Bishop) = omega arith
47<letter_of (White, Rook) = omega arith
47<letter_of (White, Queen) = omega arith
47<letter_of (White, King) = omega arith
47<letter_of (Black, Pawn) = omega arith
47<letter_of (Black, Knight) = omega arith
47<letter_of (Black, Bishop) = omega arith
47<letter_of (Black, Rook) = omega arith
47<letter_of (Black, Queen) = omega arith
47<letter_of (Black, King) = omega arith

pub IsRowText-above : {text : List ℕ} {row : List (Option Man)} → IsRowText text row → AllAbove 47 text
IsRowText-above no_squares = tt
IsRowText-above (man_then here h) = (47<letter_of here, IsRowText-above h)
IsRowText-above (run_then n rest low high e begins h) = (omega arith, IsRowText-above h)

-- the rights by their letters
rights_in : List ℕ → Rights
rights_in text = record {
  white_king = list_any (λ c. c == 75) text;
  white_queen = list_any (λ c. c == 81) text;
  black_king = list_any (λ c. c == 107) text;
  black_queen = list_any (λ c. c == 113) text;
}

rights_in-letters : (a b c d : Bool) →
    rights_in (rights_text (record { white_king = a; white_queen = b; black_king = c; black_queen = d })) ≡
    record { white_king = a; white_queen = b; black_king = c; black_queen = d }
unfolding rights_in
rights_in-letters true true true true = refl
rights_in-letters true true true false = refl
rights_in-letters true true false true = refl
rights_in-letters true true false false = refl
rights_in-letters true false true true = refl
rights_in-letters true false true false = refl
rights_in-letters true false false true = refl
rights_in-letters true false false false = refl
rights_in-letters false true true true = refl
rights_in-letters false true true false = refl
rights_in-letters false true false true = refl
rights_in-letters false true false false = refl
rights_in-letters false false true true = refl
rights_in-letters false false true false = refl
rights_in-letters false false false true = refl
rights_in-letters false false false false = refl

pub rights_text-injective : (a b : Rights) → rights_text a ≡ rights_text b → a ≡ b
rights_text-injective a b e =
    sym (rights_in-letters a.white_king a.white_queen a.black_king a.black_queen)
    ∙ (ap rights_in e ∙ rights_in-letters b.white_king b.white_queen b.black_king b.black_queen)

pub side_letter-injective : (a b : Colour) → side_letter a ≡ side_letter b → a ≡ b
side_letter-injective White White e = refl
side_letter-injective White Black e = absurd (omega arith)
side_letter-injective Black White e = absurd (omega arith)
side_letter-injective Black Black e = refl

pub target_text-injective : (a b : Option Square) → target_text a ≡ target_text b → a ≡ b
target_text-injective None None e = refl
target_text-injective None (Some b) e = cc
target_text-injective (Some a) None e = cc
target_text-injective (Some a) (Some b) e =
    let first : 96 + a.file ≡ 96 + b.file = cc in
    let second : 48 + a.rank ≡ 48 + b.rank = cc in
    let file : a.file ≡ b.file = omega arith in
    let rank : a.rank ≡ b.rank = omega arith in
    let make : ℕ → ℕ → Square = λ file rank. record { file = file; rank = rank } in
    ap (λ f. Some (make f a.rank)) file ∙ ap (λ r. Some (make b.file r)) rank
