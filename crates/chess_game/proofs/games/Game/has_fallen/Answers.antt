use Rattle.chess_game.proofs.Acts.{fallen-answered}
use Rattle.chess_game.proofs.games.Game.has_fallen.Goals as goal

pub returns : goal.returns
returns c =
    fallen-answered c.self.inside c.args.self.now c.args.at c.fallen.result c.self.view_is c.self.invariant c.fallen.ensures
