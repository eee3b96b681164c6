use Rattle.std.proofs.Common.{sym}
use Rattle.chess_entry.specs.declared.refusals.Refusal.TheVariants.{FlagUp}
use Rattle.chess_entry.specs.declared.verdicts.Verdict.TheVariants.{Refuse}
use Rattle.chess_entry.specs.Verdict.{while_running}
use Rattle.chess_table.proofs.CheckLemmas.{stops_last, passes_last}
use Rattle.chess_table.proofs.judging.flag_verdict.Goals as goal

pub returns-in-Some : goal.returns-in-Some
returns-in-Some c = λ side.
    sym (stops_last c.while_running.result (while_running c.args.game.now c.args.at) (Refuse FlagUp) c.in-Some.stop
    c.while_running.ensures c.in-Some.is)

pub returns-in-None : goal.returns-in-None
returns-in-None c = λ side.
    sym (passes_last c.while_running.result (while_running c.args.game.now c.args.at) (Refuse FlagUp)
    c.while_running.ensures c.in-None.is)
