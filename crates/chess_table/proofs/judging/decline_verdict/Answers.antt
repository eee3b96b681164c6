use Rattle.std.proofs.Common.{◌++◌, List, sym, ◌∙◌}
use Rattle.rec_codec.specs.declared.record.Event.TheVariants as event
use Rattle.rec_codec.specs.Records.{entry}
use Rattle.chess_entry.specs.declared.verdicts.Verdict.{Verdict}
use Rattle.chess_entry.specs.declared.verdicts.Verdict.TheVariants.{Enter}
use Rattle.chess_entry.specs.Verdict.{Check, while_running, offered}
use Rattle.chess_table.proofs.CheckLemmas.{stops_last, passes_last}
use Rattle.chess_table.proofs.judging.decline_verdict.Goals as goal

pub returns-in-Some : goal.returns-in-Some
returns-in-Some c =
    let game = c.args.game.now in
    let checks : List Check = while_running game c.args.at ++ offered game c.args.side in
    let last : Verdict = Enter (entry game.number c.args.at (event.Decline c.args.side)) in
    sym (stops_last c.while_offered.result checks last c.in-Some.stop c.while_offered.ensures c.in-Some.is)

pub returns-in-None : goal.returns-in-None
returns-in-None c =
    let game = c.args.game.now in
    let checks : List Check = while_running game c.args.at ++ offered game c.args.side in
    let last : Verdict = Enter (entry game.number c.args.at (event.Decline c.args.side)) in
    sym (passes_last c.while_offered.result checks last c.while_offered.ensures c.in-None.is
    ∙ sym c.entry_verdict.ensures)
