use Rattle.std.specs.Prelude.{ℕ, ◌+◌, ◌-◌, ◌&&◌, nat_le, if◌then◌else◌, List, [], ◌∷◌, ◌++◌, Option, Some, None, codes}
use Rattle.chess_bits.specs.declared.men.Kind.{Kind}
use Rattle.chess_bits.specs.declared.men.Kind.TheVariants.{Pawn, Knight, Bishop, Rook, Queen, King}
use Rattle.chess_bits.specs.Square.{Square}

-- A square's name: the letter of its file, `a` to `h`, and the digit of its rank (PGN Standard, section 8.2.3.1).
abbrev pub file_letter : Square → ℕ
file_letter s = 96 + s.file

abbrev pub rank_digit : Square → ℕ
rank_digit s = 48 + s.rank

abbrev pub square_name : Square → List ℕ
square_name s = file_letter s ∷ rank_digit s ∷ []

-- the square that a letter and a digit name
unfoldable pub square_named : ℕ → ℕ → Option Square
square_named file rank =
    if (nat_le 97 file && nat_le file 104) && (nat_le 49 rank && nat_le rank 56)
    then Some (record { file = file - 96; rank = rank - 48 })
    else None

-- the letters P, N, B, R, Q and K of the kinds of men (PGN Standard, sections 8.2.3.2 and 16.1.3.1)
abbrev pub capital_of : Kind → ℕ
capital_of Pawn = 80
capital_of Knight = 78
capital_of Bishop = 66
capital_of Rook = 82
capital_of Queen = 81
capital_of King = 75

-- what a pawn becomes, in a move's SAN: `=Q` and so on (PGN Standard, section 8.2.3.3)
abbrev pub promotion_text : Option Kind → List ℕ
promotion_text None = []
promotion_text (Some kind) = codes "=" ++ (capital_of kind ∷ [])
