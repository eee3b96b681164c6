use Rattle.std.proofs.Common.{map, arith, sym, ◌∙◌}
use Rattle.night_standings.proofs.Settling.{ends}
use Rattle.night_standings.proofs.direct.settled.Goals as goal

pub returns-then-is_same : goal.returns-then-is_same
returns-then-is_same c =
    let rounds = map (λ round. round.items) c.args.rounds.now in
    let step = rw c.as_slice.ensures.value at c.in_ok-next.ensures in
    let same = rw (c.as_slice-in-loop-at.ensures.value, c.as_slice-in-loop-at-2.ensures.value) at c.is_same.ensures in
    ends rounds c.args.count c.loop-at.at c.args.places.now c.loop-at.settled.items c.in_ok-next.next.items
    (omega (arith, c.loop-at-test.true)) c.loop-at.invariant step (sym same ∙ c.if-is_same.true)
