use Rattle.std.proofs.Common.{◌≡◌, ◌<◌, ◌+◌, ◌-◌, ◌∷◌, ◌++◌, ℕ, Bool, List, length, get_or, take, drop, subst, ap, ◌∙◌, arith}
use Rattle.std.specs.Prelude.{IsUtf8}
use Rattle.std.specs.Bool.{OnTrue, OnFalse}
use Rattle.std.proofs.lemmas.List.{take_rest, drop-drop, length-drop}
use Rattle.text_lines.specs.Lines.{HasNoFeed}
use Rattle.lobby_desk.specs.Events.{Heard}
use Rattle.lobby_talk.specs.Talking.{Moves}
use Rattle.lobby_talk.proofs.Taking.{cut_at, taken_more, left_at}
use Rattle.lobby_talk.proofs.lines.hear_lines.Goals as goal

pub loop-at-preserved : goal.loop-at-preserved
loop-at-preserved c =
    let held = c.args.held.now in
    let from = c.loop-at.from in
    let at = c.in-Some.at in
    let rest = drop from held in
    let old = c.loop-at.talk in
    let new = c.hear_line.new.talk in
    let (within, so_far) = c.loop-at.invariant in
    let whole : take (length held - from) rest ≡ rest = take_rest held from in
    let found = c.in-Some.ensures.found in
    let lt : at < length rest = subst (λ (l : List ℕ). at < length l) whole found.0 in
    let feed : get_or rest at 0 ≡ 10 = subst (λ (l : List ℕ). get_or l at 0 ≡ 10) whole found.1 in
    let none : HasNoFeed (take at rest) = subst (λ (l : List ℕ). HasNoFeed (take at l)) whole c.in-Some.ensures.first in
    let told : OnTrue c.in_ok-hear_line.field-0 (Moves old (Heard (take ((from + at) - from) rest)) new) =
    c.in_ok-hear_line.ensures.told in
    let moves : Moves old (Heard (take ((from + at) - from) rest)) new =
    subst (λ (b : Bool). OnTrue b (Moves old (Heard (take ((from + at) - from) rest)) new)) c.if-not-branch.false told in
    let size : (from + at) - from ≡ at = omega arith in (
      omega (arith, lt, length-drop from held),
      taken_more held rest (take at rest) (drop (from + (at + 1)) held) c.args.talk.now old new so_far
          (cut_at rest at lt feed ∙ ap (λ (l : List ℕ). take at rest ++ 10 ∷ l) (drop-drop (at + 1) from held)) none
          (subst (λ (n : ℕ). Moves old (Heard (take n rest)) new) size moves),
    )

pub returns-then-not-branch-clause-left : goal.returns-then-not-branch-clause-left
returns-then-not-branch-clause-left c =
    let held = c.args.held.now in
    let from = c.loop-at.from in
    let at = c.in-Some.at in
    let rest = drop from held in
    let old = c.loop-at.talk in
    let new = c.hear_line.new.talk in
    let whole : take (length held - from) rest ≡ rest = take_rest held from in
    let found = c.in-Some.ensures.found in
    let lt : at < length rest = subst (λ (l : List ℕ). at < length l) whole found.0 in
    let feed : get_or rest at 0 ≡ 10 = subst (λ (l : List ℕ). get_or l at 0 ≡ 10) whole found.1 in
    let none : HasNoFeed (take at rest) = subst (λ (l : List ℕ). HasNoFeed (take at l)) whole c.in-Some.ensures.first in
    let size : (from + at) - from ≡ at = omega arith in
    let said : OnFalse c.in_ok-hear_line.field-0 ((new ≡ old) × ¬ IsUtf8 (take ((from + at) - from) rest)) =
    c.in_ok-hear_line.ensures.none in
    let no_text : (new ≡ old) × ¬ IsUtf8 (take ((from + at) - from) rest) =
    subst (λ (b : Bool). OnFalse b ((new ≡ old) × ¬ IsUtf8 (take ((from + at) - from) rest))) c.if-not-branch.true said in
    left_at rest at lt feed none (subst (λ (n : ℕ). ¬ IsUtf8 (take n rest)) size no_text.1)
