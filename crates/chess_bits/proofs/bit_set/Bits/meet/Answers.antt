use Rattle.std.proofs.Common.{◌∙◌, ap, List, Bool}
use Rattle.chess_bits.specs.Table.{meet}
use Rattle.chess_bits.specs.Word.{bools_of}
use Rattle.chess_bits.proofs.WordLemmas.{bools_of-and}
use Rattle.chess_bits.proofs.bit_set.Bits.meet.Goals as goal

pub returns : goal.returns
returns c =
    bools_of-and 64 c.self.inside.word c.other.inside.word
    ∙ ap (λ (x : List Bool). meet x (bools_of 64 c.other.inside.word)) c.self.view_is
    ∙ ap (meet c.args.self) c.other.view_is
