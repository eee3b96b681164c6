use Rattle.std.proofs.Common.{◌≡◌, ◌∙◌, ap, sym, Ok, Some, decimal, arith}
use Rattle.std.proofs.lemmas.Bool.{false≢true}
use Rattle.std.proofs.lemmas.Fmt.{parse-decimal}
use Rattle.std.proofs.lemmas.Slice.Eq.{bytes_eq-Decides}
use Rattle.text_parts.proofs.numbers.number_read.Goals as goal

pub returns-in_default-clause-every : goal.returns-in_default-clause-every
returns-in_default-clause-every c = λ n small e.
    absurd (c.in_default.not-Ok n (parse-decimal 64 n c.args.text.now c.parse.result (omega arith) (omega arith) e
    c.parse.ensures.value.0))

pub returns-then-eq-clause-every : goal.returns-then-eq-clause-every
returns-then-eq-clause-every c = λ n small e.
    let read : c.parse.result ≡ Ok n =
    parse-decimal 64 n c.args.text.now c.parse.result (omega arith) (omega arith) e c.parse.ensures.value.0 in
    let is : c.parse.result ≡ Ok c.in-Ok.number = c.in-Ok.is in
    let same : c.in-Ok.number ≡ n = cc in
    ap Some same

pub returns-else-eq-clause-every : goal.returns-else-eq-clause-every
returns-else-eq-clause-every c = λ n small e.
    let read : c.parse.result ≡ Ok n =
    parse-decimal 64 n c.args.text.now c.parse.result (omega arith) (omega arith) e c.parse.ensures.value.0 in
    let is : c.parse.result ≡ Ok c.in-Ok.number = c.in-Ok.is in
    let same : c.in-Ok.number ≡ n = cc in
    let written : c.format.result.now ≡ c.args.text.now = c.format.ensures.text ∙ (ap decimal same ∙ sym e) in
    absurd (false≢true (sym c.if-eq.false ∙ (c.eq.ensures
    ∙ (bytes_eq-Decides c.format.result.now c.args.text.now).1 written)))
