use Rattle.std.proofs.Common.{◌∙◌, arith, List, Bool, ap, sym, subst}
use Rattle.chess_bits.specs.Square.{square_at}
use Rattle.chess_bits.specs.Table.{IsSetOf}
use Rattle.chess_bits.specs.Attack.{Reaches, knight_steps}
use Rattle.chess_attacks.proofs.Words.{knight_set}
use Rattle.chess_attacks.proofs.steps.knight.Goals as goal

pub returns : goal.returns
returns c occupied side =
    let Set' : List Bool → Type 0 = λ set. IsSetOf set (Reaches knight_steps c.args.square) in
    subst Set' (sym c.from_word.ensures) (knight_set c.from.result c.args.square (omega (arith, c.number.ensures.below)) (ap square_at c.from.ensures ∙ c.number.ensures.named))
