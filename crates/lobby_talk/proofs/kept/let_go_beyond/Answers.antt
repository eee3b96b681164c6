-- The oldest goes while they take too many bytes.
use Rattle.std.proofs.Common.{◌≡◌, ◌≤◌, ◌<◌, ℕ, List, refl, ap, sym, ◌∙◌, arith}
use Rattle.lobby_talk.specs.declared.kept_answer.KeptAnswer.{KeptAnswer}
use Rattle.lobby_talk.specs.Keeping.{size_of_all, shown}
use Rattle.lobby_talk.proofs.Keeping.{beyond, inside, some_there, newest_less, newest_done}
use Rattle.lobby_talk.proofs.kept.let_go_beyond.Goals as goal

pub loop-answers-init : goal.loop-answers-init
loop-answers-init c = refl

pub remove-requires : goal.remove-requires
remove-requires c =
    let now = c.loop-answers.answers in
    let size = c.size_of_all.ensures ∙ ap (λ (l : List KeptAnswer). shown (size_of_all l)) c.as_slice.ensures.value in
    let some = some_there c.args.most now.items
    (beyond (size_of_all now.items) c.size_of_all.result c.args.most size c.loop-answers-test.true) in
    omega (arith, some, now.ok.0)

pub loop-answers-preserved : goal.loop-answers-preserved
loop-answers-preserved c =
    let now = c.loop-answers.answers in
    let size = c.size_of_all.ensures ∙ ap (λ (l : List KeptAnswer). shown (size_of_all l)) c.as_slice.ensures.value in
    newest_less c.args.most now.items c.remove.new.self.items
    (beyond (size_of_all now.items) c.size_of_all.result c.args.most size c.loop-answers-test.true)
    c.remove.ensures.by_index.2
    ∙ c.loop-answers.invariant

pub returns-clause-within : goal.returns-clause-within
returns-clause-within c =
    let now = c.loop-answers.answers in
    let size = c.size_of_all.ensures ∙ ap (λ (l : List KeptAnswer). shown (size_of_all l)) c.as_slice.ensures.value in
    inside (size_of_all now.items) c.size_of_all.result c.args.most size c.requires c.loop-answers-test.false

pub returns-clause-newest : goal.returns-clause-newest
returns-clause-newest c =
    let now = c.loop-answers.answers in
    let size = c.size_of_all.ensures ∙ ap (λ (l : List KeptAnswer). shown (size_of_all l)) c.as_slice.ensures.value in
    newest_done c.args.most c.args.answers.now.items now.items c.loop-answers.invariant
    (inside (size_of_all now.items) c.size_of_all.result c.args.most size c.requires c.loop-answers-test.false)
