-- It is whole by what is kept, or waits.
use Rattle.std.proofs.Common.{List, ℕ, refl, subst, sym}
use Rattle.std.specs.String.{string_bytes}
use Rattle.lobby_talk.specs.Keeping.{HasKept, HasNone}
use Rattle.lobby_talk.proofs.Keeping.{made_by, still_waits}
use Rattle.lobby_talk.proofs.made.finish_line.Goals as goal

pub returns-in-None : goal.returns-in-None
returns-in-None c =
    let kept = c.args.kept.now.answers.items in
    still_waits kept c.args.one.now c.requires
    (subst (λ (l : List ℕ). HasNone kept l) c.as_str.ensures.value (rw c.in-None.is at c.find.ensures.none))

pub returns-in_ok-one-in-Some : goal.returns-in_ok-one-in-Some
returns-in_ok-one-in-Some c =
    let kept = c.args.kept.now.answers.items in
    made_by kept c.args.one.now _ refl c.requires refl
    (subst (λ (l : List ℕ). HasKept kept l (string_bytes c.in_ok-one-in-Some.field-0)) c.as_str.ensures.value
    (subst (λ (l : List ℕ). HasKept kept c.as_str.result.now l) (sym c.in_ok-one-in-Some.ensures.ok) c.in-Some.ensures.some))
