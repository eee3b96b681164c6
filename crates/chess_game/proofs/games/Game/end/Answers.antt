use Rattle.std.proofs.Common.{◌∙◌, ap, refl}
use Rattle.chess_entry.specs.Follow.{ended}
use Rattle.chess_game.specs.declared.sides.Sides.{Sides}
use Rattle.chess_game.specs.Sides.{stopped}
use Rattle.chess_game.proofs.SidesLemmas.{stopped-shown}
use Rattle.chess_game.proofs.KeptGame.{IsGame-by_act}
use Rattle.chess_game.proofs.Shown.{Shows-kept, IsGame-kept, IsSound-shown}
use Rattle.chess_game.proofs.Acts.{Shows-sides}
use Rattle.chess_game.proofs.games.Game.end.Goals as goal

pub invariant_of-self : goal.invariant_of-self
invariant_of-self c =
    let game = c.args.self.now in
    let shows = Shows-kept c.self.inside game c.self.view_is c.self.invariant in
    let after = ended game c.args.at c.args.ending in
    IsSound-shown _ after
    (Shows-sides c.self.inside game after c.stop.new.self shows
    (c.stop.ensures ∙ ap (λ (s : Sides). stopped s c.args.at c.args.ending) shows.sides
    ∙ stopped-shown game c.args.at c.args.ending c.requires.running.goes_on) refl refl refl)
    (IsGame-by_act game c.args.at c.args.ending (IsGame-kept c.self.inside game c.self.view_is c.self.invariant)
    c.requires.running c.requires.by_act)
