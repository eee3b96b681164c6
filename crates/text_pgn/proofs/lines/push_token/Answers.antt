use Rattle.std.proofs.Common.{◌∙◌, ◌+◌, List, ℕ, [], ◌∷◌, ◌++◌, length, ap, sym, subst, refl, append_assoc}
use Rattle.chess_text.specs.Movetext.{IsUnderWay}
use Rattle.text_pgn.proofs.lines.push_token.Goals as goal

pub returns-clause-under_way : goal.returns-clause-under_way
returns-clause-under_way c = λ front tokens h.
    let old : List ℕ = c.args.out.now.items in
    let token : List ℕ = c.args.token.now in
    let separator = c.separated-before.result.0.now in
    let written = c.in_ok-extend_from_slice-2.ensures.items
    ∙ ap (λ t. t ++ token) (c.in_ok-extend_from_slice.ensures.items ∙ ap (λ t. old ++ t) c.as_bytes.ensures.value) in
    subst (λ t. IsUnderWay front (tokens ++ (token ∷ [])) t (c.separated-before.result.1 + length token))
    (sym (append_assoc old separator token) ∙ sym written)
    (c.separated-before.ensures.under_way front tokens old token h c.requires.token refl)
