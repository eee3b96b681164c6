use Rattle.std.proofs.Common.{ℕ, ◌∙◌, ap, Bool, List, false, set}
use Rattle.chess_bits.specs.Table.{put}
use Rattle.chess_bits.proofs.WordLemmas.{bools_of-remove}
use Rattle.chess_bits.proofs.bit_set.Bits.remove.Goals as goal

pub returns-clause-removed : goal.returns-clause-removed
unfolding put
returns-clause-removed c =
    bools_of-remove c.self.inside.word c.number.result c.number.ensures.below
    ∙ ap (λ (x : List Bool). set x c.number.result false) c.self.view_is
    ∙ ap (λ (n : ℕ). set c.args.self.now n false) c.number.ensures.number
