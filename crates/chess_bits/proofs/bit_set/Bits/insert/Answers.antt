use Rattle.std.proofs.Common.{ℕ, ◌∙◌, ap, arith, Bool, List, true, set}
use Rattle.std.proofs.lemmas.Nat.{or_lt}
use Rattle.chess_bits.specs.Table.{put}
use Rattle.chess_bits.proofs.WordLemmas.{bools_of-insert}
use Rattle.chess_bits.proofs.bit_set.Bits.insert.Goals as goal

pub invariant_of-self : goal.invariant_of-self
invariant_of-self c = or_lt 64 _ _ c.self.invariant (omega arith)

pub returns-clause-inserted : goal.returns-clause-inserted
unfolding put
returns-clause-inserted c =
    bools_of-insert c.self.inside.word c.number.result c.number.ensures.below
    ∙ ap (λ (x : List Bool). set x c.number.result true) c.self.view_is
    ∙ ap (λ (n : ℕ). set c.args.self.now n true) c.number.ensures.number
