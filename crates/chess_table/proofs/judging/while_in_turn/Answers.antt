use Rattle.std.proofs.Common.{sym, ◌∙◌}
use Rattle.chess_entry.specs.Verdict.{while_running, in_turn}
use Rattle.chess_table.proofs.CheckLemmas.{stopped-first, stopped-second}
use Rattle.chess_table.proofs.judging.while_in_turn.Goals as goal

pub returns-in-Some : goal.returns-in-Some
returns-in-Some c =
    stopped-first (while_running c.args.game.now c.args.at) (in_turn c.args.game.now c.args.side c.args.ply)
    c.in-Some.stop (sym c.in-Some.is ∙ c.while_running.ensures)

pub returns-in-None : goal.returns-in-None
returns-in-None c =
    c.in_turn.ensures
    ∙ stopped-second (while_running c.args.game.now c.args.at) (in_turn c.args.game.now c.args.side c.args.ply)
    (sym c.in-None.is ∙ c.while_running.ensures)
