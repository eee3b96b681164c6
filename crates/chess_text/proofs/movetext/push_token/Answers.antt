use Rattle.std.proofs.Common.{◌∙◌, ◌+◌, List, ℕ, [], ◌∷◌, ◌++◌, length, ap, sym, subst, refl, append_assoc}
use Rattle.std.specs.String.{string_bytes}
use Rattle.chess_text.specs.Movetext.{IsUnderWay}
use Rattle.chess_text.proofs.movetext.push_token.Goals as goal

pub returns-clause-under_way : goal.returns-clause-under_way
returns-clause-under_way c = λ front tokens h.
    let old : List ℕ = string_bytes c.args.text.now in
    let token : List ℕ = c.args.token.now in
    let written = c.in_ok-push_str-2.ensures.bytes ∙ ap (λ t. t ++ token) c.in_ok-push_str.ensures.bytes in
    subst (λ t. IsUnderWay front (tokens ++ (token ∷ [])) t (c.separated-before.result.1 + length token))
    (sym (append_assoc old c.separated-before.result.0.now token) ∙ sym written)
    (c.separated-before.ensures.under_way front tokens old token h c.requires.token refl)
