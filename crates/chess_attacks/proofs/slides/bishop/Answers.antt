use Rattle.std.proofs.Common.{◌∙◌, ap, sym, subst, List, Bool}
use Rattle.chess_bits.specs.Table.{union, IsSetOf}
use Rattle.chess_bits.specs.Attack.{Slides, diagonal, north_east, south_east, south_west, north_west}
use Rattle.chess_attacks.proofs.Uniting.{four_ways}
use Rattle.chess_attacks.proofs.slides.bishop.Goals as goal

pub returns : goal.returns
returns c side =
    let Set' : List Bool → Type 0 = λ set. IsSetOf set (λ b. Slides c.args.occupied diagonal c.args.square b) in
    subst Set' (sym (c.union-3.ensures ∙ ap (union c.slide_rising-north_east.result) (c.union-2.ensures
    ∙ ap (union c.slide_falling-south_east.result) c.union.ensures)))
    (four_ways c.args.occupied c.slide_rising-north_east.result c.slide_falling-south_east.result c.slide_falling-south_west.result
    c.slide_rising-north_west.result c.args.square north_east south_east south_west north_west c.slide_rising-north_east.ensures
    c.slide_falling-south_east.ensures c.slide_falling-south_west.ensures c.slide_rising-north_west.ensures)
