use Rattle.std.proofs.Common.{◌∙◌, arith, List, Bool, ap, sym, subst}
use Rattle.chess_bits.specs.Square.{square_at}
use Rattle.chess_bits.specs.Table.{IsSetOf}
use Rattle.chess_bits.specs.Attack.{Reaches, adjoining}
use Rattle.chess_attacks.proofs.Words.{king_set}
use Rattle.chess_attacks.proofs.steps.king.Goals as goal

pub returns : goal.returns
returns c occupied side =
    let Set' : List Bool → Type 0 = λ set. IsSetOf set (Reaches adjoining c.args.square) in
    subst Set' (sym c.from_word.ensures) (king_set c.from.result c.args.square (omega (arith, c.number.ensures.below)) (ap square_at c.from.ensures ∙ c.number.ensures.named))
