use Rattle.std.proofs.Common.{◌≡◌, ◌∙◌, ◌∷◌, ap, sym, arith, length, List, Bool}
use Rattle.chess_bits.specs.Table.{members}
use Rattle.chess_bits.proofs.MemberLemmas.{members-after_first}
use Rattle.chess_bits.proofs.bit_set.SquaresOfIterator.next.Goals as goal

pub returns-clause-steps : goal.returns-clause-steps
returns-clause-steps c =
    members-after_first c.args.self.now.rest c.in_ok-square.square c.in_ok-square.ensures
    ∙ ap (λ (bs : List Bool). c.in_ok-square.square ∷ members bs) (sym c.remove.ensures.removed)

pub returns-clause-goes : goal.returns-clause-goes
returns-clause-goes c =
    let steps : members c.args.self.now.rest ≡ c.in_ok-square.square ∷ members c.remove.new.self =
    returns-clause-steps c in
    record { on = λ _. (tt, tt, omega (arith, ap length steps)); keeps = tt; rests = λ _. tt }
