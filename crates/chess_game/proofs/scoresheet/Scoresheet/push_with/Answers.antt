use Rattle.std.proofs.Common.{◌∙◌}
use Rattle.chess_game.proofs.ScoresheetKept.{board-placed, ending-answered}
use Rattle.chess_game.proofs.scoresheet.Scoresheet.push_with.Goals as goal

pub returns-clause-ending : goal.returns-clause-ending
returns-clause-ending c =
    ending-answered c.place.new.self c.args.board c.in_ok-times.times c.from.result c.after_move.result
    (board-placed c.args.self.now c.place.new.self c.args.mv.now c.args.board c.requires.made
    c.in_ok-times.ensures.pushed)
    c.in_ok-times.ensures.times (c.from.ensures ∙ c.halfmove.ensures) c.after_move.ensures.some c.after_move.ensures.none
