use Rattle.std.proofs.Common.{true}
use Rattle.chess_entry.specs.Follow.{with_offer}
use Rattle.chess_game.proofs.Offers.{IsGame-offered, Shows-offering}
use Rattle.chess_game.proofs.Shown.{Shows-kept, IsGame-kept, IsSound-shown, state_of-shown}
use Rattle.chess_game.proofs.games.Game.offer.Goals as goal

pub invariant_of-self : goal.invariant_of-self
invariant_of-self c =
    let game = c.args.self.now in
    IsSound-shown _ (with_offer game c.args.colour true)
    (Shows-offering c.self.inside game c.args.colour true c.set_offer.new.self
    (Shows-kept c.self.inside game c.self.view_is c.self.invariant) c.set_offer.ensures)
    (IsGame-offered 20000 game c.args.colour true (IsGame-kept c.self.inside game c.self.view_is c.self.invariant)
    c.requires.joined c.requires.goes_on)

pub returns : goal.returns
returns c =
    let game = c.args.self.now in
    state_of-shown _ (with_offer game c.args.colour true)
    (Shows-offering c.self.inside game c.args.colour true c.set_offer.new.self
    (Shows-kept c.self.inside game c.self.view_is c.self.invariant) c.set_offer.ensures)
