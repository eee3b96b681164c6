use Rattle.std.proofs.Common.{◌∙◌, ap, sym}
use Rattle.chess_bits.specs.declared.men.Colour.{Colour}
use Rattle.chess_bits.specs.declared.men.Colour.TheVariants.{White, Black}
use Rattle.chess_bits.specs.Man.{is_of}
use Rattle.chess_board.specs.Occupancy.{squares_with}
use Rattle.chess_board.proofs.MenLemmas.{squares_with-colour}
use Rattle.chess_board.proofs.men.Men.of.Goals as goal

pub returns-in-White : goal.returns-in-White
returns-in-White c = sym (squares_with-colour White c.self.inside c.self.invariant)
    ∙ ap (squares_with (is_of White)) c.self.view_is
    ∙ ap (λ (k : Colour). squares_with (is_of k) c.args.self.now) (sym c.in-White.is)

pub returns-in-Black : goal.returns-in-Black
returns-in-Black c = sym (squares_with-colour Black c.self.inside c.self.invariant)
    ∙ ap (squares_with (is_of Black)) c.self.view_is
    ∙ ap (λ (k : Colour). squares_with (is_of k) c.args.self.now) (sym c.in-Black.is)
