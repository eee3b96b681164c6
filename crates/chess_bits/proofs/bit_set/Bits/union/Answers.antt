use Rattle.std.proofs.Common.{◌∙◌, ap, List, Bool}
use Rattle.std.proofs.lemmas.Nat.{or_lt}
use Rattle.chess_bits.specs.Table.{union}
use Rattle.chess_bits.specs.Word.{bools_of}
use Rattle.chess_bits.proofs.WordLemmas.{bools_of-or}
use Rattle.chess_bits.proofs.bit_set.Bits.union.Goals as goal

pub invariant_of-result : goal.invariant_of-result
invariant_of-result c = or_lt 64 _ _ c.self.invariant c.other.invariant

pub returns : goal.returns
returns c =
    bools_of-or 64 c.self.inside.word c.other.inside.word
    ∙ ap (λ (x : List Bool). union x (bools_of 64 c.other.inside.word)) c.self.view_is
    ∙ ap (union c.args.self) c.other.view_is
