use Rattle.chess_bits.proofs.WordLemmas.{bools_of-zero}
use Rattle.chess_bits.proofs.bit_set.Bits.new.Goals as goal

pub returns : goal.returns
returns c = bools_of-zero
