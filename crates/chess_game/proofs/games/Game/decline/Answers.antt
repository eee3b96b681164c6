use Rattle.std.proofs.Common.{false, ◌∙◌, ap}
use Rattle.chess_bits.specs.declared.men.Colour.{Colour}
use Rattle.chess_bits.specs.Man.{other}
use Rattle.chess_entry.specs.Follow.{with_offer}
use Rattle.chess_game.specs.Sides.{offering}
use Rattle.chess_game.proofs.Offers.{IsGame-declined, Shows-offering}
use Rattle.chess_game.proofs.Shown.{Shows-kept, IsGame-kept, IsSound-shown, state_of-shown}
use Rattle.chess_game.proofs.games.Game.decline.Goals as goal

pub invariant_of-self : goal.invariant_of-self
invariant_of-self c =
    let game = c.args.self.now in
    let of = other c.args.colour in
    IsSound-shown _ (with_offer game of false)
    (Shows-offering c.self.inside game of false c.set_offer.new.self
    (Shows-kept c.self.inside game c.self.view_is c.self.invariant)
    (c.set_offer.ensures ∙ ap (λ (side : Colour). offering side false c.self.inside.sides) c.other.ensures))
    (IsGame-declined game of (IsGame-kept c.self.inside game c.self.view_is c.self.invariant))

pub returns : goal.returns
returns c =
    let game = c.args.self.now in
    let of = other c.args.colour in
    state_of-shown _ (with_offer game of false)
    (Shows-offering c.self.inside game of false c.set_offer.new.self
    (Shows-kept c.self.inside game c.self.view_is c.self.invariant)
    (c.set_offer.ensures ∙ ap (λ (side : Colour). offering side false c.self.inside.sides) c.other.ensures))
