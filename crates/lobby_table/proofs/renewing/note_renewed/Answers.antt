use Rattle.std.proofs.Common.{ℕ, List, Option, sym, ap, ◌∙◌}
use Rattle.std.specs.BTreeMap.{keys}
use Rattle.std.specs.Map.Iter.{deref}
use Rattle.std.proofs.lemmas.Map.Iter.{rest_more, rest_all}
use Rattle.lobby_words.specs.declared.planning.Identity.{Identity}
use Rattle.lobby_words.specs.Players.{renewed}
use Rattle.lobby_table.specs.Rooms.{left_by, left_by_each}
use Rattle.lobby_table.specs.Visitors.{who_in}
use Rattle.lobby_table.specs.Watching.{at_table}
use Rattle.lobby_table.proofs.Opened.{member_is}
use Rattle.lobby_table.proofs.renewing.note_renewed.Goals as goal

pub loop-connection-preserved : goal.loop-connection-preserved
loop-connection-preserved c =
    let who = who_in c.args.visitors.now in
    let lists = renewed c.args.before.now c.args.later.now in
    let after = λ (q : ℕ). renewed c.args.before.now c.args.later.now (who_in c.args.visitors.now q) in
    let all = c.loop-connection.all in
    let one = c.in-Some.connection.now in
    let others = c.next.new.self in
    let left = rest_more deref c.loop-connection.connection-iterator others c.next.result c.in-Some.connection c.in-Some.is c.next.ensures.steps in
    ap (left_by_each who after others)
    (c.note_left.ensures
    ∙ (ap (λ (w : Option Identity). left_by w c.renewed-after.result all) c.who_acts-who.ensures
    ∙ ap (λ (w : Option Identity). left_by (who one) w all) (c.renewed-after.ensures ∙ ap lists c.who_acts-who.ensures)))
    ∙ (ap (λ (cs : List ℕ). left_by_each who after cs all) (sym left) ∙ c.loop-connection.invariant)

pub returns : goal.returns
returns c =
    let who = who_in c.args.visitors.now in
    let after = λ (q : ℕ). renewed c.args.before.now c.args.later.now (who_in c.args.visitors.now q) in
    let none = rest_all deref c.loop-connection.connection-iterator c.next.new.self c.next.result c.in-None.is c.next.ensures.steps in (
      keys c.args.visitors.now,
      λ q. ap (λ (xs : List ℕ). at_table xs q) (sym c.keys-connection-items.ensures.rest)
          ∙ (sym (member_is _ q) ∙ sym (c.keys-connection-items.ensures.has q)),
      ap (λ (cs : List ℕ). left_by_each who after cs c.loop-connection.all) (sym none) ∙ c.loop-connection.invariant,
    )
