use Rattle.std.proofs.Common.{arith, true, false, ◌≡◌, [], ◌∷◌, ◌++◌, List, sym, ◌∙◌}
use Rattle.std.specs.Prelude.{nat_lt}
use Rattle.std.proofs.lemmas.Bool.Decides.{nat_tests}
use Rattle.rec_codec.specs.declared.record.Event.TheVariants as event
use Rattle.rec_codec.specs.Records.{entry}
use Rattle.chess_entry.specs.declared.refusals.Refusal.TheVariants.{TooEarly}
use Rattle.chess_entry.specs.declared.verdicts.Verdict.{Verdict}
use Rattle.chess_entry.specs.declared.verdicts.Verdict.TheVariants.{Enter}
use Rattle.chess_entry.specs.State.{ply_of}
use Rattle.chess_entry.specs.Verdict.{Check, refuse, while_running, offered}
use Rattle.chess_table.proofs.CheckLemmas.{stops, passes, applies, skipped}
use Rattle.chess_table.proofs.judging.accept_verdict.Goals as goal

pub returns-in-Some : goal.returns-in-Some
returns-in-Some c =
    let game = c.args.game.now in
    let checks : List Check = while_running game c.args.at ++ offered game c.args.side in
    let rest : List Check = refuse (nat_lt (ply_of game) 2) TooEarly ∷ [] in
    let last : Verdict = Enter (entry game.number c.args.at (event.Accept c.args.side)) in
    sym (stops c.while_offered.result checks rest last c.in-Some.stop c.while_offered.ensures c.in-Some.is)

pub returns-then-ply-lt2 : goal.returns-then-ply-lt2
returns-then-ply-lt2 c =
    let game = c.args.game.now in
    let checks : List Check = while_running game c.args.at ++ offered game c.args.side in
    let rest : List Check = refuse (nat_lt (ply_of game) 2) TooEarly ∷ [] in
    let last : Verdict = Enter (entry game.number c.args.at (event.Accept c.args.side)) in
    let early : nat_lt (ply_of game) 2 ≡ true = grind (arith, nat_tests, c.ply.ensures.ply, c.if-ply-lt2.true) in
    sym (passes c.while_offered.result checks rest last c.while_offered.ensures c.in_default.is
    ∙ applies _ _ _ early)

pub returns : goal.returns
returns c =
    let game = c.args.game.now in
    let checks : List Check = while_running game c.args.at ++ offered game c.args.side in
    let rest : List Check = refuse (nat_lt (ply_of game) 2) TooEarly ∷ [] in
    let last : Verdict = Enter (entry game.number c.args.at (event.Accept c.args.side)) in
    let late : nat_lt (ply_of game) 2 ≡ false = grind (arith, nat_tests, c.ply.ensures.ply, c.if-ply-lt2.false) in
    sym (passes c.while_offered.result checks rest last c.while_offered.ensures c.in_default.is
    ∙ skipped _ _ _ late ∙ sym c.entry_verdict.ensures)
