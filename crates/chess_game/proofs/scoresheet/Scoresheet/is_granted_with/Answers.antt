use Rattle.std.proofs.Common.{◌∙◌, ◌+◌, ◌≤◌, length, arith}
use Rattle.chess_game.proofs.ScoresheetKept.{times-few, fifty-answered_with, three-answered_with}
use Rattle.chess_game.proofs.scoresheet.Scoresheet.is_granted_with.Goals as goal

pub overflow_add-times : goal.overflow_add-times
overflow_add-times c =
    let few : c.times.result ≤ length c.args.self.now.moves + 1 =
    times-few c.self.inside c.args.self.now c.apply-board.result c.times.result c.self.view_is c.self.invariant
    c.times.ensures.count in
    let short = c.requires.room.short in
    omega arith

pub returns-then-fifty : goal.returns-then-fifty
returns-then-fifty c =
    fifty-answered_with c.self.inside c.args.self.now c.args.mv c.apply-board.result c.args.fifty
    c.claim_fifty.result c.from.result c.if-fifty.true c.self.view_is c.self.invariant c.apply-board.ensures.next
    c.claim_fifty.ensures (c.from.ensures ∙ c.halfmove.ensures)

pub returns-else-fifty : goal.returns-else-fifty
returns-else-fifty c =
    three-answered_with c.self.inside c.args.self.now c.args.mv c.apply-board.result c.args.fifty
    c.claim_three.result c.times.result c.if-fifty.false c.self.view_is c.self.invariant c.apply-board.ensures.next
    c.claim_three.ensures c.times.ensures.count
