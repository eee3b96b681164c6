use Rattle.std.proofs.Common.{◌≡◌, ◌∙◌, List, Vec, Global, map, take, true, sym, subst, refl}
use Rattle.std.proofs.lemmas.List.{take_all}
use Rattle.chess_board.specs.Legal.{EachOf}
use Rattle.chess_board.proofs.EachOfLemmas.{EachOf-push}
use Rattle.chess_entry.specs.declared.commands.Command.{Command}
use Rattle.chess_entry.proofs.Places.{take_with}
use Rattle.chess_store.specs.declared.plan.Life.{Life}
use Rattle.chess_store.specs.Courses.{IsSubmittable}
use Rattle.chess_store.specs.Lives.{AreSubmittable, batches_of}
use Rattle.chess_store.proofs.ServingLemmas.{EachOf-one}
use Rattle.chess_store.proofs.plan.Plan.is_submittable.Goals as goal

pub returns-then-not-may : goal.returns-then-not-may
returns-then-not-may c = (
  λ no. absurd (cc),
  λ each.
      let here = subst (λ (lives : List Life). AreSubmittable lives) (sym c.deref-life-items.ensures.value) each in
      let one = EachOf-one (λ life. EachOf IsSubmittable (batches_of life)) c.deref-life-items.result.now c.loop-life.life-index
      c.life-item.result here c.loop-life-test.true c.life-item.is in
      let may : c.are_batches-may.result ≡ true = c.are_batches-may.ensures.1
      (subst (λ (bs : List (Vec Command Global)). EachOf IsSubmittable (map (λ b. b.items) bs)) (sym c.deref.ensures.value)
      one) in
      cc,
)

pub loop-life-preserved : goal.loop-life-preserved
loop-life-preserved c =
    let lives = c.deref-life-items.result.now in
    let i = c.loop-life.life-index in
    let life = c.life-item.result in
    let may : c.are_batches-may.result ≡ true = cc in
    let one = subst (λ (bs : List (Vec Command Global)). EachOf IsSubmittable (map (λ b. b.items) bs)) c.deref.ensures.value
    (c.are_batches-may.ensures.0 may) in
    subst (λ (ls : List Life). AreSubmittable ls) (sym (take_with lives i life c.loop-life-test.true c.life-item.is))
    (EachOf-push (λ life. EachOf IsSubmittable (batches_of life)) (take i lives) life c.loop-life.invariant one)

pub returns : goal.returns
returns c = (
  λ yes. subst (λ (ls : List Life). AreSubmittable ls)
      (take_all c.loop-life.life-index c.deref-life-items.result.now c.loop-life-test.false
      ∙ c.deref-life-items.ensures.value) c.loop-life.invariant,
  λ each. refl,
)
