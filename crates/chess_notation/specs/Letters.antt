use Rattle.std.specs.Prelude.{ℕ, ◌+◌}
use Rattle.chess_bits.specs.declared.men.Colour.{Colour}
use Rattle.chess_bits.specs.declared.men.Colour.TheVariants.{White, Black}
use Rattle.chess_bits.specs.Man.{Man}
use Rattle.chess_notation.specs.Name.{capital_of}

-- White's men have capital letters and Black's the small ones (PGN Standard, section 16.1.3.1).
abbrev pub cased : Colour → ℕ → ℕ
cased White capital = capital
cased Black capital = capital + 32

abbrev pub letter_of : Man → ℕ
letter_of man = cased man.0 (capital_of man.1)

-- the signs between the ranks and between the fields of a FEN
abbrev pub slash : ℕ
slash = 47

abbrev pub space : ℕ
space = 32
