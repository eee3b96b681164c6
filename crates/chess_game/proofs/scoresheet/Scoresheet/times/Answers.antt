use Rattle.chess_game.proofs.ScoresheetKept.{times-answered}
use Rattle.chess_game.proofs.scoresheet.Scoresheet.times.Goals as goal

pub returns : goal.returns
returns c = times-answered c.self.inside c.args.self.now c.times.result c.self.view_is c.self.invariant c.times.ensures.count
