use Rattle.std.proofs.Common.{◌∙◌}
use Rattle.chess_game.proofs.EndingLemmas.{finished-answered}
use Rattle.chess_game.proofs.scoresheet.is_finished.Goals as goal

pub returns : goal.returns
returns c =
    c.is_some.ensures ∙ finished-answered c.args.board.now c.from.result c.after_move.result
    (c.from.ensures ∙ c.halfmove.ensures) c.after_move.ensures.some c.after_move.ensures.none
