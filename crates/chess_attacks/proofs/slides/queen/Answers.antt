use Rattle.std.proofs.Common.{sym, subst, List, Bool}
use Rattle.chess_bits.specs.Table.{IsSetOf}
use Rattle.chess_bits.specs.Attack.{Slides, adjoining}
use Rattle.chess_attacks.proofs.Uniting.{both_ways}
use Rattle.chess_attacks.proofs.slides.queen.Goals as goal

pub returns : goal.returns
returns c side =
    let Set' : List Bool → Type 0 = λ set. IsSetOf set (λ b. Slides c.args.occupied adjoining c.args.square b) in
    subst Set' (sym c.union.ensures)
    (both_ways c.args.occupied c.rook.result c.bishop.result c.args.square (c.rook.ensures side)
    (c.bishop.ensures side))
