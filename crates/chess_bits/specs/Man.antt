use Rattle.std.specs.Prelude.{Bool, true, false, ◌&&◌, Option, Some, None}
use Rattle.chess_bits.specs.declared.men.Colour.{Colour}
use Rattle.chess_bits.specs.declared.men.Colour.TheVariants.{White, Black}
use Rattle.chess_bits.specs.declared.men.Kind.{Kind}
use Rattle.chess_bits.specs.declared.men.Kind.TheVariants.{Pawn, Knight, Bishop, Rook, Queen, King}

-- a man is a pair of a colour and a kind (FIDE article 2.2)
abbrev pub Man : Type 0
Man = Colour × Kind

-- the opponent's colour
abbrev pub other : Colour → Colour
other White = Black
other Black = White

-- whether two are the same
abbrev pub is_colour : Colour → Colour → Bool
is_colour White White = true
is_colour White Black = false
is_colour Black White = false
is_colour Black Black = true

abbrev pub is_kind : Kind → Kind → Bool
is_kind Pawn Pawn = true
is_kind Knight Knight = true
is_kind Bishop Bishop = true
is_kind Rook Rook = true
is_kind Queen Queen = true
is_kind King King = true
is_kind _ _ = false

abbrev pub is_man : Man → Man → Bool
is_man a b = is_colour a.0 b.0 && is_kind a.1 b.1

-- whether a man is of the colour
abbrev pub is_of : Colour → Man → Bool
is_of colour man = is_colour colour man.0

-- whether there is a man, and it is so
abbrev pub holds : (Man → Bool) → Option Man → Bool
holds is None = false
holds is (Some man) = is man
