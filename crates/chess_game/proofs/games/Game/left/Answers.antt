use Rattle.std.proofs.Common.{◌∙◌, sym}
use Rattle.chess_game.proofs.Acts.{left-answered}
use Rattle.chess_game.proofs.games.Game.left.Goals as goal

pub returns-then-is_joined : goal.returns-then-is_joined
returns-then-is_joined c =
    left-answered c.self.inside c.args.self.now c.args.colour c.args.at c.left.result c.self.view_is c.self.invariant
    (sym c.is_joined.ensures ∙ c.if-is_joined.true) c.left.ensures
