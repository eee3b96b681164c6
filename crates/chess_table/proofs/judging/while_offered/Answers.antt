use Rattle.std.proofs.Common.{sym, ◌∙◌}
use Rattle.chess_entry.specs.Verdict.{while_running, offered}
use Rattle.chess_table.proofs.CheckLemmas.{stopped-first, stopped-second}
use Rattle.chess_table.proofs.judging.while_offered.Goals as goal

pub returns-in-Some : goal.returns-in-Some
returns-in-Some c =
    stopped-first (while_running c.args.game.now c.args.at) (offered c.args.game.now c.args.side)
    c.in-Some.stop (sym c.in-Some.is ∙ c.while_running.ensures)

pub returns-in-None : goal.returns-in-None
returns-in-None c =
    c.offered.ensures
    ∙ stopped-second (while_running c.args.game.now c.args.at) (offered c.args.game.now c.args.side)
    (sym c.in-None.is ∙ c.while_running.ensures)
