use Rattle.std.proofs.Common.{ℕ, ◌∙◌, arith, List, Bool, ap, sym, subst}
use Rattle.chess_bits.specs.Square.{square_at}
use Rattle.chess_bits.specs.Table.{IsSetOf, empty}
use Rattle.chess_bits.specs.Attack.{SlidesAlong}
use Rattle.chess_attacks.specs.Ways.{way_step}
use Rattle.chess_attacks.proofs.Words.{ray_set}
use Rattle.chess_attacks.proofs.rays.ray.Goals as goal

pub returns-clause-squares : goal.returns-clause-squares
returns-clause-squares c =
    let Set' : List Bool → Type 0 = λ set. IsSetOf set (λ b. SlidesAlong empty c.args.square b (way_step c.args.way)) in
    let at_way : ℕ → Type 0 = λ way. IsSetOf c.from_word.result
    (λ b. SlidesAlong empty c.args.square b (way_step way)) in
    subst at_way c.from-2.ensures (
    subst (λ (set : List Bool). IsSetOf set (λ b. SlidesAlong empty c.args.square b (way_step c.from-2.result)))
    (sym c.from_word.ensures) (ray_set c.from.result c.from-2.result c.args.square
    (omega (arith, c.number.ensures.below)) (omega (arith, c.from-2.ensures))
    (ap square_at c.from.ensures ∙ c.number.ensures.named)))
