-- The session is given the portion, or nothing.
use Rattle.std.proofs.Common.{◌∙◌, ℕ, List, IfSome, ap, inl, inr, length, length-append, refl, subst, sym, rules, arith}
use Rattle.chess_hub.specs.Session.{session_at}
use Rattle.std.proofs.lemmas.Bool.{false≢true, lt-ltb, le-ltb}
use Rattle.chess_sockets.specs.Clients.{standing, GivesOn, ahead, pends}
use Rattle.chess_sockets.specs.Protocols.{AreOfAnotherProtocol}
use Rattle.chess_sockets.proofs.ClosingLemmas.{is_foreign}
use Rattle.chess_sockets.specs.Incoming.{held}
use Rattle.chess_sockets.specs.Sending.{waiting}
use Rattle.chess_sockets.proofs.TakingLemmas.{gives-none-up, gives-none-yet, gives-closed, gives-fed, spoken-now, some_given, none_given, up_lines, none_lines, cut-off, most-left, heard_open}
use Rattle.chess_sockets.proofs.RoundLemmas.{not_closed}
use Rattle.chess_sockets.proofs.client.Client.hand_on.Goals as goal

pub feed-requires-clause-small : goal.feed-requires-clause-small
feed-requires-clause-small g c =
    omega (arith, c.args.self.now.incoming.few, simp length-append at (ap length c.portion-portion.ensures.portion.order))

pub feed-requires-clause-portion : goal.feed-requires-clause-portion
feed-requires-clause-portion g c = c.portion-portion.ensures.portion.given

pub feed-requires-clause-alone : goal.feed-requires-clause-alone
feed-requires-clause-alone g c =
    none_lines (session_at c.args.hub.now.sessions c.args.self.now.sid) c.waiting.result c.waiting.ensures
    (omega (arith, c.if-waiting-gt0.false))

pub returns-then-waiting-gt0-clause-gives : goal.returns-then-waiting-gt0-clause-gives
returns-then-waiting-gt0-clause-gives g c =
    let client = c.args.self.now in
    let room = c.args.room.now in
    let m = session_at c.args.hub.now.sessions client.sid in
    gives-none-up (standing client) (standing client) room.lines room.longest m m (waiting client.outgoing) (held client.incoming) refl
    (up_lines (waiting client.outgoing) (held client.incoming) m m c.waiting.result c.waiting.ensures (omega (arith, c.if-waiting-gt0.true))) refl

pub returns-then-not-admit-clause-gives : goal.returns-then-not-admit-clause-gives
returns-then-not-admit-clause-gives g c =
    let client = c.args.self.now in
    let room = c.args.room.now in
    let m = session_at c.args.hub.now.sessions client.sid in
    let cut = c.portion-portion.ensures.portion in
    gives-none-yet (standing client) _ room.lines c.admit.new.self.lines room.longest m (waiting client.outgoing) (held client.incoming)
    c.portion-portion.result.now cut.rest c.if-not-admit.ensures.refused cut.order
    (λ little. false≢true (c.if-not-admit.ensures.may.1 (inl little))) (search rules) refl c.if-not-admit.ensures.waits

pub returns-then-feed-clause-gives : goal.returns-then-feed-clause-gives
returns-then-feed-clause-gives g c =
    let client = c.args.self.now in
    let room = c.args.room.now in
    let sid = client.sid in
    let holds = held client.incoming in
    let portion = c.portion-portion.result.now in
    let cut = c.portion-portion.ensures.portion in
    let keeps = held c.give_up.new.self in
    gives-fed (standing client) _ room.lines c.admit.new.self.lines room.longest (session_at c.args.hub.now.sessions sid)
    (session_at c.feed.new.hub.sessions sid) (waiting client.outgoing) holds portion keeps
    (cut-off holds portion cut.rest keeps cut.order c.give_up.ensures)
    (most-left holds portion cut.rest keeps cut.order c.give_up.ensures cut.most) c.admit.ensures.fewer
    c.if-not-admit.ensures.dear c.admit.ensures.spent c.if-feed.ensures.heard c.give_up.ensures
    c.portion-portion.ensures.some refl
    (spoken-now holds portion client.has_spoken _ _ (λ quiet other. false≢true (sym c.if-is_foreign.false
    ∙ c.is_foreign.ensures.1 (quiet, other))) refl (λ some. lt-ltb 0 (length portion) (some_given portion some))
    (λ none. le-ltb 0 (length portion) (none_given portion none)))

pub returns-else-feed-clause-gives : goal.returns-else-feed-clause-gives
returns-else-feed-clause-gives g c =
    let client = c.args.self.now in
    let room = c.args.room.now in
    let sid = client.sid in
    gives-closed (standing client) (standing client) room.lines c.admit.new.self.lines room.longest (session_at c.args.hub.now.sessions sid)
    (session_at c.feed.new.hub.sessions sid) (waiting client.outgoing) (held client.incoming) c.admit.ensures.fewer
    c.if-feed.ensures.closed refl

-- who is not refused memory is not closed

pub returns-then-waiting-gt0-clause-reason : goal.returns-then-waiting-gt0-clause-reason
returns-then-waiting-gt0-clause-reason g c =
    not_closed (session_at c.args.hub.now.sessions c.args.self.now.sid) _ c.requires

pub returns-then-not-admit-clause-reason : goal.returns-then-not-admit-clause-reason
returns-then-not-admit-clause-reason g c =
    not_closed (session_at c.args.hub.now.sessions c.args.self.now.sid) _ c.requires

pub returns-then-feed-clause-reason : goal.returns-then-feed-clause-reason
returns-then-feed-clause-reason g c =
    heard_open _ _ c.portion-portion.result.now c.requires c.if-feed.ensures.heard

pub returns-else-feed-clause-reason : goal.returns-else-feed-clause-reason
returns-else-feed-clause-reason g c = λ none. inl c.if-feed.ensures.refused

pub returns-then-waiting-gt0-clause-refused : goal.returns-then-waiting-gt0-clause-refused
returns-then-waiting-gt0-clause-refused g c =
    not_closed (session_at c.args.hub.now.sessions c.args.self.now.sid) _ c.requires

pub returns-then-not-admit-clause-refused : goal.returns-then-not-admit-clause-refused
returns-then-not-admit-clause-refused g c =
    not_closed (session_at c.args.hub.now.sessions c.args.self.now.sid) _ c.requires

pub returns-then-feed-clause-refused : goal.returns-then-feed-clause-refused
returns-then-feed-clause-refused g c =
    heard_open _ _ c.portion-portion.result.now c.requires c.if-feed.ensures.heard

pub returns-else-feed-clause-refused : goal.returns-else-feed-clause-refused
returns-else-feed-clause-refused g c = λ none. inr (inl c.if-feed.ensures.refused)

-- the others stay

pub returns-then-feed-clause-others : goal.returns-then-feed-clause-others
returns-then-feed-clause-others g c = c.feed.ensures.others

pub returns-else-feed-clause-others : goal.returns-else-feed-clause-others
returns-else-feed-clause-others g c = c.feed.ensures.others

-- it begins as another protocol does

pub returns-then-is_foreign-clause-gives : goal.returns-then-is_foreign-clause-gives
returns-then-is_foreign-clause-gives g c =
    let client = c.args.self.now in
    let after = c.close.new.self in
    let room = c.args.room.now in
    let holds = held client.incoming in
    let m = session_at c.args.hub.now.sessions client.sid in
    let n = session_at c.close.new.hub.sessions client.sid in
    let unsent = waiting client.outgoing in
    let (sid, ended, quiet, keeps, waits, stream, heard_at, still) = c.close.ensures.peer in
    subst (λ (l : List ℕ). IfSome m (λ s. GivesOn (ahead room.longest unsent) (pends holds (standing client) room.lines) (pends l (standing after) room.lines) s n)) (sym keeps)
    (gives-closed (standing client) (standing after) room.lines room.lines room.longest m n unsent holds (omega arith)
    c.close.ensures.closed.changed still)

pub returns-then-is_foreign-clause-reason : goal.returns-then-is_foreign-clause-reason
returns-then-is_foreign-clause-reason g c =
    let client = c.args.self.now in
    let after = c.close.new.self in
    let (sid, ended, quiet, keeps, waits, stream, heard_at, still) = c.close.ensures.peer in
    let (silent, other) = c.is_foreign.ensures.0 c.if-is_foreign.true in
    λ none. is_foreign after c.close.ensures.told (
      ap (λ t. t.has_spoken) still ∙ silent,
      subst (λ (l : List ℕ). AreOfAnotherProtocol l) (sym keeps) other,
    )
