use Rattle.std.proofs.Common.{ℕ, ◌==◌, map, sym, ap, ◌∙◌}
use Rattle.std.proofs.lemmas.List.{length-map}
use Rattle.std.proofs.lemmas.List.Folds.{list_all-map}
use Rattle.chess_text.specs.Movetext.{is_token}
use Rattle.text_pgn.proofs.Fits.{laid_each}
use Rattle.text_pgn.proofs.lines.are_laid.Goals as goal

pub returns-then-not-is_empty : goal.returns-then-not-is_empty
returns-then-not-is_empty c =
    let tokens = c.args.tokens.now in
    c.are_short.ensures
    ∙ sym (list_all-map is_token (λ t. t.items) tokens)
    ∙ laid_each (map (λ t. t.items) tokens) c.is_empty.result
    (c.is_empty.ensures ∙ ap (λ (n : ℕ). n == 0) (sym (length-map tokens (λ t. t.items)))) c.if-not-is_empty.true
