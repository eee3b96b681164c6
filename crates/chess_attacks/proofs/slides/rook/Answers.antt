use Rattle.std.proofs.Common.{◌∙◌, ap, sym, subst, List, Bool}
use Rattle.chess_bits.specs.Table.{union, IsSetOf}
use Rattle.chess_bits.specs.Attack.{Slides, straight, north, east, south, west}
use Rattle.chess_attacks.proofs.Uniting.{four_ways}
use Rattle.chess_attacks.proofs.slides.rook.Goals as goal

pub returns : goal.returns
returns c side =
    let Set' : List Bool → Type 0 = λ set. IsSetOf set (λ b. Slides c.args.occupied straight c.args.square b) in
    subst Set' (sym (c.union-3.ensures ∙ ap (union c.slide_rising-north.result) (c.union-2.ensures
    ∙ ap (union c.slide_rising-east.result) c.union.ensures)))
    (four_ways c.args.occupied c.slide_rising-north.result c.slide_rising-east.result c.slide_falling-south.result
    c.slide_falling-west.result c.args.square north east south west c.slide_rising-north.ensures
    c.slide_rising-east.ensures c.slide_falling-south.ensures c.slide_falling-west.ensures)
