use Rattle.std.proofs.Common.{◌∙◌, ap, sym}
use Rattle.chess_bits.specs.declared.men.Colour.{Colour}
use Rattle.chess_san.specs.Asked.{asked_of}
use Rattle.chess_san.proofs.Comparing.{IfNone-any, IfNone-map, nothing_asked, none_asked}
use Rattle.chess_san.proofs.reading.by_san.Goals as goal

pub returns-in_err-asked-clause-none : goal.returns-in_err-asked-clause-none
returns-in_err-asked-clause-none c =
    IfNone-any c.from_residual.result _
    (nothing_asked c.args.board.now c.args.text.now c.asked_of.result
    (c.asked_of.ensures ∙ ap (λ (side : Colour). asked_of side c.args.text.now) c.side.ensures) c.in_err-asked.was)

pub returns-clause-none : goal.returns-clause-none
returns-clause-none c =
    IfNone-map c.found.result _ _
    (none_asked c.args.board.now c.args.text.now c.in_ok-asked.asked
    (sym c.in_ok-asked.was ∙ c.asked_of.ensures ∙ ap (λ (side : Colour). asked_of side c.args.text.now) c.side.ensures))
    c.found.ensures.none
