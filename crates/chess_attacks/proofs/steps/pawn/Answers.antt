use Rattle.std.proofs.Common.{◌≡◌, ◌∙◌, arith, List, Bool, ap, sym, subst}
use Rattle.chess_bits.specs.declared.men.Colour.{Colour}
use Rattle.chess_bits.specs.declared.men.Colour.TheVariants.{White, Black}
use Rattle.chess_bits.specs.Square.{square_at, Square}
use Rattle.chess_bits.specs.Table.{IsSetOf}
use Rattle.chess_bits.specs.Attack.{Reaches, pawn_attacks}
use Rattle.chess_attacks.proofs.Words.{white_pawn_set, black_pawn_set}
use Rattle.chess_attacks.proofs.steps.pawn.Goals as goal

as_colour : (set : List Bool) (side colour : Colour) (a : Square) → colour ≡ side →
    IsSetOf set (Reaches (pawn_attacks side) a) → IsSetOf set (Reaches (pawn_attacks colour) a)
as_colour set side colour a is of =
    let Set' : Colour → Type 0 = λ c. IsSetOf set (Reaches (pawn_attacks c) a) in subst Set' (sym is) of

pub returns-in-White : goal.returns-in-White
returns-in-White c occupied =
    let Set' : List Bool → Type 0 = λ set. IsSetOf set (Reaches (pawn_attacks White) c.args.square) in
    as_colour c.from_word.result White c.args.colour c.args.square c.in-White.is
    (subst Set' (sym c.from_word.ensures) (white_pawn_set c.from-number.result c.args.square
    (omega (arith, c.number.ensures.below)) (ap square_at c.from-number.ensures ∙ c.number.ensures.named)))

pub returns-in-Black : goal.returns-in-Black
returns-in-Black c occupied =
    let Set' : List Bool → Type 0 = λ set. IsSetOf set (Reaches (pawn_attacks Black) c.args.square) in
    as_colour c.from_word-in-Black.result Black c.args.colour c.args.square c.in-Black.is
    (subst Set' (sym c.from_word-in-Black.ensures) (black_pawn_set c.from-number.result c.args.square
    (omega (arith, c.number.ensures.below)) (ap square_at c.from-number.ensures ∙ c.number.ensures.named)))
