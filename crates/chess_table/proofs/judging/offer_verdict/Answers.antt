use Rattle.std.proofs.Common.{[], ◌∷◌, List, sym, ◌∙◌}
use Rattle.rec_codec.specs.declared.record.Event.TheVariants as event
use Rattle.rec_codec.specs.Records.{entry}
use Rattle.chess_entry.specs.declared.refusals.Refusal.TheVariants.{OfferStands}
use Rattle.chess_entry.specs.declared.verdicts.Verdict.{Verdict}
use Rattle.chess_entry.specs.declared.verdicts.Verdict.TheVariants.{Enter}
use Rattle.chess_entry.specs.Verdict.{Check, refuse, while_running, has_offer}
use Rattle.chess_table.proofs.CheckLemmas.{stops, passes, applies, skipped}
use Rattle.chess_table.proofs.judging.offer_verdict.Goals as goal

pub returns-in-Some : goal.returns-in-Some
returns-in-Some c =
    let game = c.args.game.now in
    let rest : List Check = refuse (has_offer game) OfferStands ∷ [] in
    let last : Verdict = Enter (entry game.number c.args.at (event.Offer c.args.side)) in
    sym (stops c.while_running.result (while_running game c.args.at) rest last c.in-Some.stop c.while_running.ensures c.in-Some.is)

pub returns-then-has_offer : goal.returns-then-has_offer
returns-then-has_offer c =
    let game = c.args.game.now in
    let rest : List Check = refuse (has_offer game) OfferStands ∷ [] in
    let last : Verdict = Enter (entry game.number c.args.at (event.Offer c.args.side)) in
    sym (passes c.while_running.result (while_running game c.args.at) rest last c.while_running.ensures c.in_default.is
    ∙ applies _ _ _ (sym c.has_offer.ensures ∙ c.if-has_offer.true))

pub returns : goal.returns
returns c =
    let game = c.args.game.now in
    let rest : List Check = refuse (has_offer game) OfferStands ∷ [] in
    let last : Verdict = Enter (entry game.number c.args.at (event.Offer c.args.side)) in
    sym (passes c.while_running.result (while_running game c.args.at) rest last c.while_running.ensures c.in_default.is
    ∙ skipped _ _ _ (sym c.has_offer.ensures ∙ c.if-has_offer.false)
    ∙ sym c.entry_verdict.ensures)
