use Rattle.std.proofs.Common.{◌∙◌, ◌+◌, ◌≤◌, length, arith}
use Rattle.chess_game.proofs.ScoresheetKept.{times-few, ending-answered_with}
use Rattle.chess_game.proofs.scoresheet.Scoresheet.ending_with.Goals as goal

pub overflow_add-times : goal.overflow_add-times
overflow_add-times c =
    let few : c.times.result ≤ length c.args.self.now.moves + 1 =
    times-few c.self.inside c.args.self.now c.apply-board.result c.times.result c.self.view_is c.self.invariant
    c.times.ensures.count in
    let short = c.requires.room.short in
    omega arith

pub returns : goal.returns
returns c =
    ending-answered_with c.self.inside c.args.self.now c.args.mv.now c.apply-board.result c.times.result c.from.result
    c.after_move.result c.self.view_is c.self.invariant c.apply-board.ensures.next c.times.ensures.count
    (c.from.ensures ∙ c.halfmove.ensures) c.after_move.ensures.some c.after_move.ensures.none
