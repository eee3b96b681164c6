-- The replay goes on for who waits longest.
use Rattle.std.proofs.Common.{List, Option, ℕ, refl, ap, sym, subst, ◌∙◌}
use Rattle.std.proofs.Math.Logic.{∥∥₁_map}
use Rattle.lobby_talk.specs.declared.kept_answer.KeptAnswer.{KeptAnswer}
use Rattle.lobby_talk.specs.declared.under_way.UnderWay.{UnderWay}
use Rattle.lobby_talk.specs.Replaying.{Replays}
use Rattle.lobby_talk.specs.Keeping.{IsPut, IsPutIf}
use Rattle.lobby_talk.specs.declared.kept.KeptAnswers.{KeptAnswers}
use Rattle.lobby_guests.specs.Guests.{wanted_text, AreAnswered}
use Rattle.lobby_guests.proofs.Catching.{all_caught_none}
use Rattle.lobby_guests.proofs.guests.answer_waiting.Goals as goal

pub returns-in-None-clause-up : goal.returns-in-None-clause-up
returns-in-None-clause-up g c = all_caught_none c.args.counts.now.at c.args.guests.now.items

pub returns-in-None-clause-answers : goal.returns-in-None-clause-answers
returns-in-None-clause-answers g c =
    let kept = c.args.talk.now.kept.answers.items in
    let old = c.args.talk.now.replay in
    let now = c.replay_on.new.self.replay in
    let next = c.wanted_text.ensures ∙ ap wanted_text c.as_slice.ensures.value in
    let guests = c.args.guests.now.items in
    let new = c.replay_on.new.self.kept.answers.items in
    ∥∥₁_map c.in_ok-replay_on.ensures.replays
    (λ goes. (
      c.in_ok-replay_on.field-0,
      subst (λ (n : Option (List ℕ)). Replays kept n old now c.in_ok-replay_on.field-0) next goes,
      subst (λ (answer : Option KeptAnswer). AreAnswered answer guests guests) (sym c.in-None.is) refl,
      subst (λ (answer : Option KeptAnswer). IsPutIf answer kept new) (sym c.in-None.is)
          (ap (λ (k : KeptAnswers). k.answers.items) c.in_ok-replay_on.ensures.kept),
    ))

pub returns-in_ok-keep-in-Some-clause-answers : goal.returns-in_ok-keep-in-Some-clause-answers
returns-in_ok-keep-in-Some-clause-answers g c =
    let kept = c.args.talk.now.kept.answers.items in
    let old = c.args.talk.now.replay in
    let now = c.replay_on.new.self.replay in
    let next = c.wanted_text.ensures ∙ ap wanted_text c.as_slice.ensures.value in
    let guests = c.args.guests.now.items in
    let told = c.answer_all.new.guests.items in
    let new = c.keep.new.self.kept.answers.items in
    subst (λ (r : Option UnderWay). ∥ ((answer : Option KeptAnswer) × Replays kept (wanted_text guests) old r answer
    × AreAnswered answer guests told × IsPutIf answer kept new) ∥₁) (sym c.in_ok-keep-in-Some.ensures.replay)
    (∥∥₁_map c.in_ok-replay_on.ensures.replays
    (λ goes. (
      c.in_ok-replay_on.field-0,
      subst (λ (n : Option (List ℕ)). Replays kept n old now c.in_ok-replay_on.field-0) next goes,
      subst (λ (answer : Option KeptAnswer). AreAnswered answer guests told) (sym c.in-Some.is) c.answer_all.ensures.answered,
      subst (λ (answer : Option KeptAnswer). IsPutIf answer kept new) (sym c.in-Some.is)
          (subst (λ (k : KeptAnswers). IsPut c.in-Some.answer k.answers.items new) c.in_ok-replay_on.ensures.kept
          c.in_ok-keep-in-Some.ensures.keeps),
    )))
