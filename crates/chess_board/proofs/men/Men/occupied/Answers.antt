use Rattle.std.proofs.Common.{◌∙◌, ap, sym, List, Bool}
use Rattle.chess_bits.specs.declared.men.Colour.TheVariants.{White, Black}
use Rattle.chess_bits.specs.Table.{union}
use Rattle.chess_board.specs.Position.{occupied_of}
use Rattle.chess_board.specs.Men.{placement_of}
use Rattle.chess_board.proofs.MenLemmas.{squares_with-colour, union-colours}
use Rattle.chess_board.proofs.men.Men.occupied.Goals as goal

pub returns : goal.returns
returns c =
    c.union.ensures
    ∙ ap (λ (x : List Bool). union x c.self.inside.black) (sym (squares_with-colour White c.self.inside c.self.invariant))
    ∙ ap (union _) (sym (squares_with-colour Black c.self.inside c.self.invariant))
    ∙ union-colours (placement_of c.self.inside) ∙ ap occupied_of c.self.view_is
