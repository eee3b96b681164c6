use Rattle.std.proofs.Common.{subst, arith, ◌≡◌, take}
use Rattle.chess_hub.specs.Turn.{turn_lines, waiting_of, rounds, AreTurnLines}
use Rattle.chess_hub.proofs.TurnLineLemmas.{open-turn, open-read, rounds-more}
use Rattle.chess_hub.proofs.RoundLemmas.{turn-full, turn-none}
use Rattle.chess_hub.proofs.sessions.Sessions.next_lines.Goals as goal

pub returns-then-len-most-clause-turn : goal.returns-then-len-most-clause-turn
returns-then-len-most-clause-turn c =
    turn-full c.args.most c.loop-place.place (waiting_of c.args.self.now) c.loop-place.turn.items (omega arith)
    c.loop-place.invariant.1 (omega arith)

pub returns-then-len-most-clause-open : goal.returns-then-len-most-clause-open
returns-then-len-most-clause-open c =
    let all : AreTurnLines (turn_lines c.args.most (waiting_of c.args.self.now)) c.loop-place.turn.items =
    turn-full c.args.most c.loop-place.place (waiting_of c.args.self.now) c.loop-place.turn.items (omega arith)
    c.loop-place.invariant.1 (omega arith) in
    open-read c.args.self.now.slab (turn_lines c.args.most (waiting_of c.args.self.now)) c.loop-place.turn.items all
    (open-turn c.args.self.now.slab c.args.most)

pub returns-then-len-before-clause-turn : goal.returns-then-len-before-clause-turn
returns-then-len-before-clause-turn c =
    let sessions = waiting_of c.args.self.now in
    let old = c.loop-place.turn.items in
    let now = c.push_round.new.turn.items in
    turn-none c.args.most c.loop-place.place sessions old now (omega arith) c.loop-place.invariant.1
    (rounds-more c.args.most c.loop-place.place sessions old now c.loop-place.invariant.1
    c.in_ok-push_round.ensures.more)
    (omega arith)

pub returns-then-len-before-clause-open : goal.returns-then-len-before-clause-open
returns-then-len-before-clause-open c =
    let sessions = waiting_of c.args.self.now in
    let old = c.loop-place.turn.items in
    let now = c.push_round.new.turn.items in
    let all : AreTurnLines (turn_lines c.args.most sessions) now =
    turn-none c.args.most c.loop-place.place sessions old now (omega arith) c.loop-place.invariant.1
    (rounds-more c.args.most c.loop-place.place sessions old now c.loop-place.invariant.1
    c.in_ok-push_round.ensures.more)
    (omega arith) in
    open-read c.args.self.now.slab (turn_lines c.args.most sessions) now all
    (open-turn c.args.self.now.slab c.args.most)

pub returns-clause-open : goal.returns-clause-open
returns-clause-open c =
    let at_end : c.loop-place.place ≡ c.args.most = omega arith in
    open-read c.args.self.now.slab (turn_lines c.args.most (waiting_of c.args.self.now)) c.loop-place.turn.items
    (subst (λ n. AreTurnLines (take c.args.most (rounds n (waiting_of c.args.self.now))) c.loop-place.turn.items) at_end
    c.loop-place.invariant.1) (open-turn c.args.self.now.slab c.args.most)

pub loop-place-preserved : goal.loop-place-preserved
loop-place-preserved c = (
  c.in_ok-push_round.ensures.few,
  rounds-more c.args.most c.loop-place.place (waiting_of c.args.self.now)
      c.loop-place.turn.items c.push_round.new.turn.items c.loop-place.invariant.1 c.in_ok-push_round.ensures.more,
)
