use Rattle.chess_end.proofs.Shades.{dark_set, light_set}
use Rattle.chess_end.proofs.material.squares_of.Goals as goal

pub returns-then-dark : goal.returns-then-dark
returns-then-dark c = rw (c.from_word.ensures, c.if-dark.true) dark_set

pub returns-else-dark : goal.returns-else-dark
returns-else-dark c = rw (c.from_word-else-dark.ensures, c.if-dark.false) light_set
