use Rattle.std.proofs.Common.{◌≡◌, ◌+◌, ◌++◌, ◌∙◌, ℕ, List, ap, arith, take}
use Rattle.std.proofs.lemmas.List.{take_all}
use Rattle.std.proofs.Math.Seq.{take-append-add}
use Rattle.chess_fen.proofs.shown.push_filled.Goals as goal

pub returns-clause-bytes : goal.returns-clause-bytes
returns-clause-bytes c =
    let text = c.args.text.now.bytes in
    let rank = c.args.rank.now in
    let whole : c.range.result.now ≡ rank.filled.bytes =
    c.range.ensures.value ∙ ap (take 8) c.as_str.ensures.value ∙ take_all 8 rank.filled.bytes (omega (arith, c.requires.filled.whole)) in
    c.truncate.ensures
    ∙ ap (take (c.len.result + rank.end)) (c.push_str.ensures.bytes ∙ ap (λ (t : List ℕ). text ++ t) whole)
    ∙ ap (λ (n : ℕ). take (n + rank.end) (text ++ rank.filled.bytes)) c.len.ensures.value
    ∙ take-append-add text rank.filled.bytes rank.end
