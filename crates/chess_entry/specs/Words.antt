-- The words of the protocol that lines and answers share.
use Rattle.std.specs.Prelude.{ℕ, List, codes}
use Rattle.chess_bits.specs.declared.men.Colour.{Colour}
use Rattle.chess_bits.specs.declared.men.Colour.TheVariants.{White, Black}

abbrev pub colour_word : Colour → List ℕ
colour_word White = codes "white"
colour_word Black = codes "black"
