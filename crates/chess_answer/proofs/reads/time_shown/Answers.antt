use Rattle.std.proofs.Common.{◌∙◌}
use Rattle.chess_answer.proofs.TimesShown.{left_in-shown}
use Rattle.chess_answer.proofs.reads.time_shown.Goals as goal

pub returns : goal.returns
returns c =
    c.from.ensures ∙ (c.left.ensures ∙ left_in-shown c.args.game.now c.args.colour c.args.at c.number-numbered.ensures.game)
