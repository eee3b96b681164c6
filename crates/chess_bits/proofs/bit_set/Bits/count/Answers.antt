use Rattle.std.proofs.Common.{◌∙◌, ap, List, Bool, length}
use Rattle.chess_bits.specs.Table.{members}
use Rattle.chess_bits.proofs.MemberLemmas.{length-members}
use Rattle.chess_bits.proofs.bit_set.Bits.count.Goals as goal

pub returns : goal.returns
returns c = length-members c.self.inside.word c.self.invariant
    ∙ ap (λ (bs : List Bool). length (members bs)) c.self.view_is
