-- What came is held back, and then the session is given what stands in front.
use Rattle.std.proofs.Common.{◌≡◌, ◌∙◌, ◌⊎◌, ℕ, List, Option, None, IfSome, inl, inr, ap, refl, subst, sym, arith}
use Rattle.std.proofs.lemmas.Bool.{false≢true}
use Rattle.chess_hub.specs.Session.{Changes, session_at}
use Rattle.chess_sockets.specs.Clients.{Standing, standing, GivesOn, TakesIn, ahead, pends}
use Rattle.chess_sockets.specs.Closings.{WasRefused, IsTrouble}
use Rattle.chess_sockets.specs.Incoming.{held}
use Rattle.chess_sockets.specs.Sending.{waiting}
use Rattle.chess_sockets.proofs.HeardLemmas.{heard_as_before, heard_on, end_as_before, end_on}
use Rattle.chess_sockets.proofs.RoundLemmas.{not_closed}
use Rattle.chess_sockets.proofs.ClosingLemmas.{has_failed}
use Rattle.chess_sockets.proofs.TakingLemmas.{takes-nothing, takes-in, takes-in-unfinished, gives-none-up, gives-closed, up_unsent}
use Rattle.chess_sockets.proofs.client.Client.take_in.Goals as goal

pub returns-then-not-is_empty-clause-taken : goal.returns-then-not-is_empty-clause-taken
returns-then-not-is_empty-clause-taken g c =
    let client = c.args.self.now in
    let room = c.args.room.now in
    let m = session_at c.args.hub.now.sessions client.sid in
    let bytes = g.S.Read.remaining client.wire.stream in
    let holds = held client.incoming in
    let unsent = waiting client.outgoing in
    takes-in (standing client) (standing client) room.lines room.lines room.longest m m bytes bytes unsent holds holds holds
    (takes-nothing bytes holds)
    (gives-none-up (standing client) (standing client) room.lines room.longest m m unsent holds refl
    (up_unsent unsent holds m m (λ none. false≢true (sym c.if-not-is_empty.true ∙ c.is_empty.ensures.1 none))) refl)
    (λ quiet other. inl refl)

pub returns-then-not-is_unfinished-clause-taken : goal.returns-then-not-is_unfinished-clause-taken
returns-then-not-is_unfinished-clause-taken g c =
    let client = c.args.self.now in
    let after = c.hand_on.new.self in
    let old = c.args.hub.now.sessions in
    let new = c.hand_on.new.hub.sessions in
    let rest = g.S.Read.remaining in
    let room = c.args.room.now in
    let unsent = waiting client.outgoing in
    subst (λ (b : Option (List ℕ)). IfSome (session_at old client.sid) (λ s. TakesIn (rest client.wire.stream) b (ahead room.longest unsent) (pends (held client.incoming) (standing client) room.lines) (pends (held after.incoming) (standing after) c.hand_on.new.room.lines) s (session_at new client.sid))) (sym (ap rest c.hand_on.ensures.stream))
    (takes-in (standing client) (standing after) room.lines c.hand_on.new.room.lines room.longest (session_at old client.sid)
    (session_at new client.sid) (rest client.wire.stream) (rest client.wire.stream) unsent (held client.incoming)
    (held client.incoming) (held after.incoming) (takes-nothing (rest client.wire.stream) (held client.incoming))
    c.hand_on.ensures.gives (λ quiet other. inl refl))

pub returns-in-Nothing-clause-taken : goal.returns-in-Nothing-clause-taken
returns-in-Nothing-clause-taken g c =
    takes-in-unfinished _ _ _ _ _ _ _ _ _ _ c.read_more.ensures.takes (c.read_more.ensures.nothing c.in-Nothing.is)
    (c.is_unfinished.ensures.0 c.if-not-is_unfinished.false) c.read_more.ensures.peer.2

pub returns-in-End-clause-taken : goal.returns-in-End-clause-taken
returns-in-End-clause-taken g c =
    takes-in-unfinished _ _ _ _ _ _ _ _ _ _ c.read_more.ensures.takes (c.read_more.ensures.end c.in-End.is)
    (c.is_unfinished.ensures.0 c.if-not-is_unfinished.false) c.read_more.ensures.peer.2

pub returns-in-Fault-clause-taken : goal.returns-in-Fault-clause-taken
returns-in-Fault-clause-taken g c =
    let client = c.args.self.now in
    let between = c.read_more.new.self in
    let after = c.close.new.self in
    let room = c.args.room.now.lines in
    let longest = c.args.room.now.longest in
    let old = c.args.hub.now.sessions in
    let new = c.close.new.hub.sessions in
    let rest = g.S.Read.remaining in
    let unsent = waiting client.outgoing in
    let closed = subst (λ (n : ℕ). Changes old new n None) c.read_more.ensures.peer.0 c.close.ensures.closed in
    let (sid, ended, quiet, holds, waits, stream, heard_at, wait) = c.close.ensures.peer in
    subst (λ (b : Option (List ℕ)). IfSome (session_at old client.sid) (λ s. TakesIn (rest client.wire.stream) b (ahead longest unsent) (pends (held client.incoming) (standing client) room) (pends (held after.incoming) (standing after) room) s (session_at new client.sid)))
    (sym (ap rest stream))
    (subst (λ (l : List ℕ). IfSome (session_at old client.sid) (λ s. TakesIn (rest client.wire.stream) (rest between.wire.stream) (ahead longest unsent) (pends (held client.incoming) (standing client) room) (pends l (standing after) room) s (session_at new client.sid)))
    (sym holds)
    (takes-in (standing client) (standing after) room room longest (session_at old client.sid) (session_at new client.sid)
    (rest client.wire.stream) (rest between.wire.stream) unsent (held client.incoming) (held between.incoming)
    (held between.incoming) c.read_more.ensures.takes
    (gives-closed (standing client) (standing after) room room longest (session_at old client.sid) (session_at new client.sid) unsent (held between.incoming)
    (omega arith) closed.changed (wait ∙ c.read_more.ensures.peer.2)) (λ quiet other. inr closed.changed)))

pub returns-in-Fault-clause-heard : goal.returns-in-Fault-clause-heard
returns-in-Fault-clause-heard g c =
    let client = c.args.self.now in
    let between = c.read_more.new.self in
    let after = c.close.new.self in
    let rest = g.S.Read.remaining in
    let (sid, ended, quiet, holds, waits, stream, heard_at, wait) = c.close.ensures.peer in
    heard_on (rest client.wire.stream) (rest between.wire.stream) (rest after.wire.stream) c.args.at client.heard_at between.heard_at
    after.heard_at c.read_more.ensures.heard (ap rest stream) heard_at

pub returns-in-Bytes-clause-taken : goal.returns-in-Bytes-clause-taken
returns-in-Bytes-clause-taken g c =
    let client = c.args.self.now in
    let between = c.read_more.new.self in
    let after = c.hand_on-in-Bytes.new.self in
    let room = c.args.room.now.lines in
    let longest = c.args.room.now.longest in
    let left = c.hand_on-in-Bytes.new.room.lines in
    let old = c.args.hub.now.sessions in
    let new = c.hand_on-in-Bytes.new.hub.sessions in
    let rest = g.S.Read.remaining in
    let unsent = waiting client.outgoing in
    let (same, waits, still) = c.read_more.ensures.peer in
    let gives = subst (λ (n : ℕ). IfSome (session_at old n) (λ s. GivesOn (ahead longest unsent) (pends (held between.incoming) (standing client) room) (pends (held after.incoming) (standing after) left) s (session_at new n))) same
    (subst (λ (w : Standing). IfSome (session_at old between.sid) (λ s. GivesOn (ahead longest unsent) (pends (held between.incoming) w room) (pends (held after.incoming) (standing after) left) s (session_at new between.sid))) still
    (subst (λ (u : List ℕ). IfSome (session_at old between.sid) (λ s. GivesOn (ahead longest u) (pends (held between.incoming) (standing between) room) (pends (held after.incoming) (standing after) left) s (session_at new between.sid))) waits
    c.hand_on-in-Bytes.ensures.gives)) in
    subst (λ (b : Option (List ℕ)). IfSome (session_at old client.sid) (λ s. TakesIn (rest client.wire.stream) b (ahead longest unsent) (pends (held client.incoming) (standing client) room) (pends (held after.incoming) (standing after) left) s (session_at new client.sid)))
    (sym (ap rest c.hand_on-in-Bytes.ensures.stream))
    (takes-in (standing client) (standing after) room left longest (session_at old client.sid) (session_at new client.sid)
    (rest client.wire.stream) (rest between.wire.stream) unsent (held client.incoming) (held between.incoming)
    (held after.incoming) c.read_more.ensures.takes gives
    (λ quiet other. inr (subst (λ (n : ℕ). session_at new n ≡ None) same
    (c.hand_on-in-Bytes.ensures.foreign (ap (λ t. t.has_spoken) still ∙ quiet, other)))))

pub returns-then-not-is_unfinished-clause-heard : goal.returns-then-not-is_unfinished-clause-heard
returns-then-not-is_unfinished-clause-heard g c =
    let client = c.args.self.now in
    let rest = g.S.Read.remaining in
    let after = c.hand_on.new.self in
    heard_on (rest client.wire.stream) (rest client.wire.stream) (rest after.wire.stream) c.args.at client.heard_at client.heard_at
    after.heard_at (heard_as_before (rest client.wire.stream) c.args.at client.heard_at) (ap rest c.hand_on.ensures.stream)
    c.hand_on.ensures.heard

pub returns-in-Bytes-clause-heard : goal.returns-in-Bytes-clause-heard
returns-in-Bytes-clause-heard g c =
    let client = c.args.self.now in
    let between = c.read_more.new.self in
    let after = c.hand_on-in-Bytes.new.self in
    let rest = g.S.Read.remaining in
    heard_on (rest client.wire.stream) (rest between.wire.stream) (rest after.wire.stream) c.args.at client.heard_at between.heard_at
    after.heard_at c.read_more.ensures.heard (ap rest c.hand_on-in-Bytes.ensures.stream) c.hand_on-in-Bytes.ensures.heard

pub returns-then-not-is_unfinished-clause-ended : goal.returns-then-not-is_unfinished-clause-ended
returns-then-not-is_unfinished-clause-ended g c =
    let client = c.args.self.now in
    let rest = g.S.Read.remaining in
    let after = c.hand_on.new.self in
    end_on (rest client.wire.stream) (rest after.wire.stream) client.has_ended client.has_ended after.has_ended
    (end_as_before (rest client.wire.stream) client.has_ended) (ap rest c.hand_on.ensures.stream) c.hand_on.ensures.ended

pub returns-in-Fault-clause-ended : goal.returns-in-Fault-clause-ended
returns-in-Fault-clause-ended g c =
    let client = c.args.self.now in
    let between = c.read_more.new.self in
    let after = c.close.new.self in
    let rest = g.S.Read.remaining in
    let (sid, ended, quiet, holds, waits, stream, heard_at, wait) = c.close.ensures.peer in
    end_on (rest between.wire.stream) (rest after.wire.stream) client.has_ended between.has_ended after.has_ended
    c.read_more.ensures.ended (ap rest stream) ended

pub returns-in-Bytes-clause-ended : goal.returns-in-Bytes-clause-ended
returns-in-Bytes-clause-ended g c =
    let client = c.args.self.now in
    let between = c.read_more.new.self in
    let after = c.hand_on-in-Bytes.new.self in
    let rest = g.S.Read.remaining in
    end_on (rest between.wire.stream) (rest after.wire.stream) client.has_ended between.has_ended after.has_ended
    c.read_more.ensures.ended (ap rest c.hand_on-in-Bytes.ensures.stream) c.hand_on-in-Bytes.ensures.ended

pub returns-then-not-is_empty-clause-reason : goal.returns-then-not-is_empty-clause-reason
returns-then-not-is_empty-clause-reason g c =
    not_closed (session_at c.args.hub.now.sessions c.args.self.now.sid) _ c.requires

pub returns-in-Nothing-clause-reason : goal.returns-in-Nothing-clause-reason
returns-in-Nothing-clause-reason g c =
    not_closed (session_at c.args.hub.now.sessions c.args.self.now.sid) _ c.requires

pub returns-in-End-clause-reason : goal.returns-in-End-clause-reason
returns-in-End-clause-reason g c =
    not_closed (session_at c.args.hub.now.sessions c.args.self.now.sid) _ c.requires

pub returns-in-Fault-clause-reason : goal.returns-in-Fault-clause-reason
returns-in-Fault-clause-reason g c =
    λ none. has_failed c.close.new.self c.close.ensures.told
    (ap (λ w. w.has_failed) c.close.ensures.marks.0 ∙ c.read_more.ensures.failed c.in-Fault.is)

pub returns-in-Bytes-clause-reason : goal.returns-in-Bytes-clause-reason
returns-in-Bytes-clause-reason g c =
    subst (λ (n : ℕ). session_at c.hand_on-in-Bytes.new.hub.sessions n ≡ None → IsTrouble c.hand_on-in-Bytes.new.self)
    c.read_more.ensures.peer.0 c.hand_on-in-Bytes.ensures.reason

-- who takes room and is closed was refused memory

pub returns-then-not-is_unfinished-clause-refused : goal.returns-then-not-is_unfinished-clause-refused
returns-then-not-is_unfinished-clause-refused g c = c.hand_on.ensures.refused

pub returns-in-Bytes-clause-refused : goal.returns-in-Bytes-clause-refused
returns-in-Bytes-clause-refused g c = subst (λ (n : ℕ). session_at c.hand_on-in-Bytes.new.hub.sessions n ≡ None
    → (c.hand_on-in-Bytes.new.room.lines ≡ c.args.room.now.lines) ⊎ WasRefused c.hand_on-in-Bytes.new.self)
    c.read_more.ensures.peer.0 c.hand_on-in-Bytes.ensures.refused
