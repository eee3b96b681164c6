use Rattle.std.proofs.Common.{◌∙◌}
use Rattle.chess_game.proofs.ScoresheetKept.{fifty-answered, three-answered}
use Rattle.chess_game.proofs.scoresheet.Scoresheet.is_granted.Goals as goal

pub returns-then-fifty : goal.returns-then-fifty
returns-then-fifty c =
    fifty-answered c.self.inside c.args.self.now c.args.fifty c.claim_fifty.result c.from.result
    c.if-fifty.true c.self.view_is c.self.invariant c.claim_fifty.ensures (c.from.ensures ∙ c.halfmove.ensures)

pub returns-else-fifty : goal.returns-else-fifty
returns-else-fifty c =
    three-answered c.self.inside c.args.self.now c.args.fifty c.claim_three.result c.times.result
    c.if-fifty.false c.self.view_is c.self.invariant c.claim_three.ensures c.times.ensures.count
