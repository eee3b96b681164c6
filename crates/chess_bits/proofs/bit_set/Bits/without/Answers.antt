use Rattle.std.proofs.Common.{◌∙◌, ap, List, Bool}
use Rattle.chess_bits.specs.Table.{without}
use Rattle.chess_bits.specs.Word.{bools_of}
use Rattle.chess_bits.proofs.WordLemmas.{bools_of-without}
use Rattle.chess_bits.proofs.bit_set.Bits.without.Goals as goal

pub returns : goal.returns
returns c =
    bools_of-without c.self.inside.word c.other.inside.word c.other.invariant
    ∙ ap (λ (x : List Bool). without x (bools_of 64 c.other.inside.word)) c.self.view_is
    ∙ ap (without c.args.self) c.other.view_is
