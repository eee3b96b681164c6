use Rattle.std.proofs.Common.{◌≤◌, ◌+◌, arith, sym, subst, vec_len}
use Rattle.chess_hub.specs.Turn.{waiting, waiting_in}
use Rattle.chess_hub.proofs.TurnLineLemmas.{InRound, waiting_from, round-one, round-done, slot-none, slot-some, slot-past}
use Rattle.chess_hub.proofs.turn.push_round.Goals as goal
use Rattle.chess_hub.proofs.turn.push_round.Goals.{in-Some+in_ok-push_line, in_default}

pub loop-sid-preserved : goal.loop-sid-preserved
loop-sid-preserved c =
    let slab = c.args.slab.now in
    let sid = c.loop-sid.sid in
    let all = waiting_in slab in
    let old = c.args.turn.now.items in
    let here = c.loop-sid.turn.items in
    elim c.match-get.branch [
      | in-Some+in_ok-push_line w ↦
          subst (λ v. (vec_len v ≤ c.args.most)
          × InRound c.args.most c.args.place all (waiting_from slab (sid + 1)) old v.items) (sym w.turn-is) (
            w.in_ok-push_line.ensures.few,
            round-one c.args.most c.args.place all (waiting_from slab (sid + 1)) (waiting (sid, w.in-Some.session.now)) old here
                w.push_line.new.turn.items
                (subst (λ ws. InRound c.args.most c.args.place all ws old here)
                (slot-some slab sid w.in-Some.session.now (sym w.in-Some.ensures)) c.loop-sid.invariant.1)
                w.in_ok-push_line.ensures.more,
          )
      | in_default w ↦
          subst (λ v. (vec_len v ≤ c.args.most)
          × InRound c.args.most c.args.place all (waiting_from slab (sid + 1)) old v.items) (sym w.turn-is) (
            c.loop-sid.invariant.0,
            subst (λ ws. InRound c.args.most c.args.place all ws old here)
                (slot-none slab sid (sym w.in_default.ensures)) c.loop-sid.invariant.1,
          )
    ]

pub returns-clause-more : goal.returns-clause-more
returns-clause-more c =
    round-done c.args.most c.args.place (waiting_in c.args.slab.now) (waiting_from c.args.slab.now c.loop-sid.sid)
    c.args.turn.now.items c.loop-sid.turn.items c.loop-sid.invariant.1
    (slot-past c.args.slab.now c.loop-sid.sid (omega arith))
