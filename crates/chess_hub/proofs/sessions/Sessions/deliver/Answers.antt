use Rattle.std.proofs.Common.{◌∙◌, sym, ap, take, drop, ◌++◌, ◌∷◌, [], ◌+◌, length, subst}
use Rattle.std.proofs.lemmas.List.{take_more}
use Rattle.std.specs.Vec.Iter.{into_iter_items}
use Rattle.chess_entry.proofs.Places.{drop_at}
use Rattle.chess_hub.specs.Answers.{own_answer}
use Rattle.chess_hub.specs.Delivery.{asking_count}
use Rattle.chess_hub.proofs.DeliveryLemmas.{Answering, answering-none, answering-one, answering-done, one-left, room-here}
use Rattle.chess_hub.proofs.sessions.Sessions.deliver.Goals as goal

pub loop-line-init : goal.loop-line-init
loop-line-init c =
    subst (λ l. Answering c.args.at c.args.lines.now 0 c.args.replies.items l c.args.self.now c.args.self.now)
    (sym c.into_iter-left.ensures.rest)
    (answering-none c.args.at c.args.lines.now c.args.replies.items c.args.self.now c.requires.room c.requires.replies)

pub next_answer-reply-requires : goal.next_answer-reply-requires
next_answer-reply-requires c =
    let lines = c.args.lines.now in
    let i = c.loop-line.line-index in
    let t = c.line-item.result in
    let split = drop_at lines i t c.loop-line-test.true c.line-item.is in
    one-left (own_answer c.args.at t.line) (length (into_iter_items c.loop-line.left))
    (asking_count c.args.at (drop (i + 1) lines))
    (c.loop-line.invariant.count ∙ ap (asking_count c.args.at) split)

pub give-requires : goal.give-requires
give-requires c =
    let lines = c.args.lines.now in
    let i = c.loop-line.line-index in
    let t = c.line-item.result in
    let split = drop_at lines i t c.loop-line-test.true c.line-item.is in
    room-here c.args.at lines i c.args.replies.items (into_iter_items c.loop-line.left) c.args.self.now c.loop-line.self t
    c.loop-line.invariant c.loop-line-test.true split

pub loop-line-preserved : goal.loop-line-preserved
loop-line-preserved c =
    let lines = c.args.lines.now in
    let i = c.loop-line.line-index in
    let t = c.line-item.result in
    let split = drop_at lines i t c.loop-line-test.true c.line-item.is in
    answering-one c.args.at lines i t c.args.replies.items (into_iter_items c.loop-line.left)
    (into_iter_items c.next_answer-reply.new.left) c.args.self.now c.loop-line.self
    (record c.loop-line.self { slab = c.give.new.slab }) c.given_name.result c.next_answer-reply.result c.loop-line.invariant
    c.loop-line-test.true split
    (take_more lines i t c.loop-line-test.true ∙ ap (λ x. take i lines ++ x ∷ []) (sym c.line-item.is))
    c.next_answer-reply.ensures c.give.ensures.given c.give.ensures.others c.given_name.ensures

pub returns : goal.returns
returns c =
    answering-done c.args.at c.args.lines.now c.loop-line.line-index c.args.replies.items
    (into_iter_items c.loop-line.left) c.args.self.now c.loop-line.self c.loop-line.invariant c.loop-line-test.false
