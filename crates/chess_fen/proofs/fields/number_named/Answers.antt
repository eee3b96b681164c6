use Rattle.std.proofs.Common.{◌≡◌, ◌∙◌, ap, sym, Ok, decimal, arith}
use Rattle.std.proofs.lemmas.Bool.{false≢true}
use Rattle.std.proofs.lemmas.Fmt.{parse-decimal}
use Rattle.std.proofs.lemmas.Slice.Eq.{bytes_eq-Decides}
use Rattle.chess_fen.proofs.fields.number_named.Goals as goal
use Rattle.chess_fen.proofs.fields.number_named.Goals.{else-number-least-via-then-number-least+else-eq, else-number-least-via-else-number-least}

pub returns-in_default-clause-none : goal.returns-in_default-clause-none
returns-in_default-clause-none c = λ n told.
    let bound = told.to in
    c.in_default.not-Ok n (parse-decimal 16 n c.args.text.now c.parse.result (omega arith) (omega arith) told.spelled
    c.parse.ensures.value.0)

pub returns-else-number-least-clause-none : goal.returns-else-number-least-clause-none
returns-else-number-least-clause-none c = λ n told.
    let bound = told.to in
    let least = told.from in
    let read : c.parse.result ≡ Ok n =
    parse-decimal 16 n c.args.text.now c.parse.result (omega arith) (omega arith) told.spelled c.parse.ensures.value.0 in
    let is : c.parse.result ≡ Ok c.in-Ok.number = c.in-Ok.is in
    let same : c.in-Ok.number ≡ n = cc in
    elim c.else-number-least.branch [
      | else-number-least-via-then-number-least+else-eq w ↦
          let written : w.format.result.now ≡ c.args.text.now =
          w.format.ensures.text ∙ (ap decimal same ∙ sym told.spelled) in
          false≢true (sym w.if-eq.false ∙ (w.eq.ensures
          ∙ (bytes_eq-Decides w.format.result.now c.args.text.now).1 written))
      | else-number-least-via-else-number-least w ↦
          let below = w.if-number-least.false in absurd (omega arith)
    ]
