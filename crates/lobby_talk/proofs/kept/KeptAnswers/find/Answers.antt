-- It is among those that are kept, or none of them is of this text.
use Rattle.std.proofs.Common.{◌≡◌, true, false, List, ℕ, sym, subst, ◌∙◌}
use Rattle.std.specs.String.{string_bytes}
use Rattle.std.specs.Str.{bytes_eq}
use Rattle.std.proofs.lemmas.Bool.{both_ways}
use Rattle.std.proofs.lemmas.List.{take_all}
use Rattle.std.proofs.lemmas.Slice.Eq.{bytes_eq-Decides}
use Rattle.lobby_talk.specs.declared.kept_answer.KeptAnswer.{KeptAnswer}
use Rattle.lobby_talk.specs.Keeping.{HasKept, HasNone}
use Rattle.lobby_talk.proofs.Keeping.{has_kept, none_more}
use Rattle.lobby_talk.proofs.kept.KeptAnswers.find.Goals as goal

pub loop-one-init : goal.loop-one-init
loop-one-init c = λ answer has. has

pub loop-one-preserved : goal.loop-one-preserved
loop-one-preserved c =
    let one = c.one-item.result in
    let text = c.args.pgn.now in
    let differs : bytes_eq (string_bytes one.pgn) text ≡ false = sym c.is_of.ensures ∙ c.if-is_of.false in
    none_more c.deref-one-items.result.now c.loop-one.one-index one text c.loop-one-test.true c.one-item.is
    (λ same. both_ways (bytes_eq (string_bytes one.pgn) text) differs ((bytes_eq-Decides (string_bytes one.pgn) text).1 same))
    c.loop-one.invariant

pub returns-then-is_of-clause-some : goal.returns-then-is_of-clause-some
returns-then-is_of-clause-some c =
    let one = c.one-item.result in
    let text = c.args.pgn.now in
    let new = c.answer.result.now in
    let same : bytes_eq (string_bytes one.pgn) text ≡ true = sym c.is_of.ensures ∙ c.if-is_of.true in
    subst (λ (l : List KeptAnswer). HasKept l text new) c.deref-one-items.ensures.value
    (has_kept c.deref-one-items.result.now c.loop-one.one-index one text new c.loop-one-test.true c.one-item.is
    ((bytes_eq-Decides (string_bytes one.pgn) text).0 same) (sym c.answer.ensures))

pub returns-clause-none : goal.returns-clause-none
returns-clause-none c =
    let items = c.deref-one-items.result.now in
    subst (λ (l : List KeptAnswer). HasNone l c.args.pgn.now)
    (take_all c.loop-one.one-index items c.loop-one-test.false ∙ c.deref-one-items.ensures.value) c.loop-one.invariant
