use Rattle.std.proofs.Common.{◌≡◌, ℕ, List, true, false, length, subst, ap, sym, ◌∙◌, arith}
use Rattle.std.specs.Prelude.{◌==◌}
use Rattle.std.proofs.lemmas.Str.Pattern.{split_once_first}
use Rattle.lobby_talk.proofs.Making.{last_line_first, last_line_behind, last_line_whole}
use Rattle.lobby_talk.specs.Making.{last_line, lines_behind}
use Rattle.lobby_talk.proofs.made.+last_line.Goals as goal

pub returns-in-None : goal.returns-in-None
returns-in-None t c =
    let parts = split_once_first 10 c.args.text.now c.split_once.result c.split_once.ensures.cases (omega arith) in
    let here = rw c.in-None.is at parts in
    sym (last_line_whole c.args.text.now here)

pub returns-then-is_empty : goal.returns-then-is_empty
returns-then-is_empty t c =
    let parts = split_once_first 10 c.args.text.now c.split_once.result c.split_once.ensures.cases (omega arith) in
    let here = rw c.in-Some.is at parts in
    let empty : (length c.in-Some.rest.now == 0) ≡ true = sym c.is_empty.ensures ∙ c.if-is_empty.true in
    let none : (length (lines_behind c.args.text.now) == 0) ≡ true =
    subst (λ (l : List ℕ). (length l == 0) ≡ true) here.2 empty in
    here.1 ∙ sym (last_line_first c.args.text.now none)

pub returns-else-is_empty : goal.returns-else-is_empty
returns-else-is_empty t c =
    let parts = split_once_first 10 c.args.text.now c.split_once.result c.split_once.ensures.cases (omega arith) in
    let here = rw c.in-Some.is at parts in
    let filled : (length c.in-Some.rest.now == 0) ≡ false = sym c.is_empty.ensures ∙ c.if-is_empty.false in
    let some : (length (lines_behind c.args.text.now) == 0) ≡ false =
    subst (λ (l : List ℕ). (length l == 0) ≡ false) here.2 filled in
    c.last_line.ensures ∙ (ap last_line here.2 ∙ sym (last_line_behind c.args.text.now some))
