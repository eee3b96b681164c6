use Rattle.std.proofs.Common.{◌≡◌, ◌+◌, ◌++◌, [], ◌∷◌, length, subst, arith}
use Rattle.chess_text.specs.Movetext.{IsUnderWay}
use Rattle.chess_text.proofs.Lines.{first_token, same_line, next_line}
use Rattle.chess_text.proofs.movetext.separated.Goals as goal

pub returns-then-width-eq0-clause-under_way : goal.returns-then-width-eq0-clause-under_way
returns-then-width-eq0-clause-under_way c = λ front tokens text token h is len.
    let own : length token ≡ 0 + c.args.len = omega (arith, len) in
    subst (λ n. IsUnderWay front (tokens ++ (token ∷ [])) (text ++ token) n) own
    (first_token front tokens text c.args.width token h c.if-width-eq0.true is.filled is.short)

pub returns-then-width-len-le-WIDEST-clause-under_way : goal.returns-then-width-len-le-WIDEST-clause-under_way
returns-then-width-len-le-WIDEST-clause-under_way c = λ front tokens text token h is len.
    subst (λ n. IsUnderWay front (tokens ++ (token ∷ [])) (text ++ (32 ∷ token)) (c.args.width + 1 + n)) len
    (same_line front tokens text c.args.width token h c.if-width-eq0.false (omega (arith, len)))

pub returns-else-width-len-le-WIDEST-clause-under_way : goal.returns-else-width-len-le-WIDEST-clause-under_way
returns-else-width-len-le-WIDEST-clause-under_way c = λ front tokens text token h is len.
    let own : length token ≡ 0 + c.args.len = omega (arith, len) in
    subst (λ n. IsUnderWay front (tokens ++ (token ∷ [])) (text ++ (10 ∷ token)) n) own
    (next_line front tokens text c.args.width token h c.if-width-eq0.false (omega (arith, len)) is.filled is.short)
