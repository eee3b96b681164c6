use Rattle.std.proofs.Common.{◌≡◌, ◌∙◌, ◌==◌, ap, sym, ℕ, List, [], ◌∷◌, length, true, refl, arith}
use Rattle.std.proofs.lemmas.Bool.{false≢true, eq-eqb, eqb-true}
use Rattle.std.proofs.lemmas.Str.Pattern.{split_parts, split_after}
use Rattle.chess_fen.proofs.fields.take_field.Goals as goal
use Rattle.chess_fen.proofs.fields.take_field.Goals.{in_default-via-in-Some+else-not-is_empty, in_default-via-in_default}

pub returns-in-Some-clause-field : goal.returns-in-Some-clause-field
returns-in-Some-clause-field c =
    let parts = split_parts 32 c.args.text.now c.split_once.result c.split_once.ensures.cases (omega arith) in
    let here = rw c.in-Some.is at parts in
    record {
      filled = λ e. let none : length c.in-Some.field.now ≡ 0 = ap length e in
          false≢true (sym c.if-not-is_empty.true ∙ (c.is_empty.ensures ∙ eq-eqb (length c.in-Some.field.now) 0 none));
      unspaced = here.1;
    }

empty_length : (text : List ℕ) → (length text == 0) ≡ true → text ≡ []
empty_length [] e = refl
empty_length (x ∷ text) e = let none : length (x ∷ text) ≡ 0 = eqb-true (length (x ∷ text)) 0 e in absurd (omega arith)

pub returns-in_default-clause-none : goal.returns-in_default-clause-none
returns-in_default-clause-none c = λ field rest is e.
    let after = split_after 32 c.args.text.now field rest c.split_once.result c.split_once.ensures.cases (omega arith) e is.unspaced in
    elim c.in_default.branch [
      | in_default-via-in-Some+else-not-is_empty w ↦
          let here = rw w.in-Some.is at after in
          let empty : w.in-Some.field.now ≡ [] =
          empty_length w.in-Some.field.now (sym w.is_empty.ensures ∙ w.if-not-is_empty.false) in
          is.filled (sym here.0 ∙ empty)
      | in_default-via-in_default w ↦ rw w.in_default.is at after
    ]
