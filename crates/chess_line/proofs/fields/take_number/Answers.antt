use Rattle.std.proofs.Common.{◌≡◌, ℕ, Option, Some, None, decimal, arith}
use Rattle.std.proofs.lemmas.Str.Pattern.{split_after}
use Rattle.chess_line.proofs.Cuts.{decimal_without}
use Rattle.chess_line.proofs.fields.take_number.Goals as goal

pub returns-in_err-field-clause-every : goal.returns-in_err-field-clause-every
returns-in_err-field-clause-every c = λ n rest small e.
    absurd (split_after 32 c.args.text.now (decimal n) rest None c.in_err-field.ensures.cases (omega arith) e
    (decimal_without 32 n (omega arith) small))

pub returns-in_err-number-clause-every : goal.returns-in_err-number-clause-every
returns-in_err-number-clause-every c = λ n rest small e.
    let after = split_after 32 c.args.text.now (decimal n) rest (Some (c.in_ok-field.field, c.in_ok-field.rest))
    c.in_ok-field.ensures.cases (omega arith) e (decimal_without 32 n (omega arith) small) in
    let no : ◌≡◌ {A = Option ℕ} None (Some n) = c.in_err-number.ensures.every n small after.0 in absurd (cc)

pub returns-clause-every : goal.returns-clause-every
returns-clause-every c = λ n rest small e.
    let after = split_after 32 c.args.text.now (decimal n) rest (Some (c.in_ok-field.field, c.in_ok-field.rest))
    c.in_ok-field.ensures.cases (omega arith) e (decimal_without 32 n (omega arith) small) in
    let read : ◌≡◌ {A = Option ℕ} (Some c.in_ok-number.number) (Some n) = c.in_ok-number.ensures.every n small after.0 in
    let same : c.in_ok-number.number ≡ n = cc in
    (same, after.1)
