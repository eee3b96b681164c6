use Rattle.std.proofs.Common.{◌≡◌, ◌∙◌, ap, sym, subst}
use Rattle.std.proofs.lemmas.Bool.{false≢true}
use Rattle.std.proofs.lemmas.Slice.Eq.{bytes_eq-Decides}
use Rattle.chess_notation.specs.Fen.{placement_text, IsPlacementText}
use Rattle.chess_fen.proofs.Positions.{placement_text-IsPlacementText, IsPlacementText-placement_text}
use Rattle.chess_fen.proofs.squares.placement_named.Goals as goal

pub returns-then-eq-clause-told : goal.returns-then-eq-clause-told
returns-then-eq-clause-told c =
    let men = c.men_told-men.result in
    let same : c.as_str.result.now ≡ c.args.text.now =
    (bytes_eq-Decides c.as_str.result.now c.args.text.now).0 (sym c.eq.ensures ∙ c.if-eq.true) in
    let written : placement_text men ≡ c.args.text.now =
    sym c.placement.ensures.bytes ∙ (sym c.as_str.ensures.value ∙ same) in
    record {
      whole = c.men_told-men.ensures.whole;
      spelled = subst (λ text. IsPlacementText text men) written (placement_text-IsPlacementText men);
    }

pub returns-else-eq-clause-none : goal.returns-else-eq-clause-none
returns-else-eq-clause-none c = λ p told.
    let men = c.men_told-men.result in
    let text : c.args.text.now ≡ placement_text p = IsPlacementText-placement_text c.args.text.now p told.spelled in
    let is : men ≡ p = c.men_told-men.ensures.told p told.whole text in
    let same : c.as_str.result.now ≡ c.args.text.now =
    c.as_str.ensures.value ∙ (c.placement.ensures.bytes ∙ (ap placement_text is ∙ sym text)) in
    false≢true (sym c.if-eq.false ∙ (c.eq.ensures ∙ (bytes_eq-Decides c.as_str.result.now c.args.text.now).1 same))
