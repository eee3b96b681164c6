-- The session is closed behind what it was given.
use Rattle.std.proofs.Common.{◌≡◌, ◌↔◌, ◌∙◌, ℕ, Bool, true, false, List, [], Option, None, IfSome, ap, inr, refl, subst, sym}
use Rattle.std.specs.Prelude.{IsTrue}
use Rattle.text_lines.specs.Lines.{IsUnfinished}
use Rattle.chess_hub.specs.Session.{Changes, session_at, due}
use Rattle.chess_sockets.specs.declared.closing.Closing.TheVariants.{NoMemory, End, Farewell}
use Rattle.chess_sockets.specs.Clients.{IsOpen, HandsOut, to_go}
use Rattle.chess_sockets.specs.Incoming.{held}
use Rattle.chess_sockets.specs.Sending.{waiting}
use Rattle.chess_sockets.specs.Closings.{IsOver}
use Rattle.chess_sockets.proofs.ClosingLemmas.{because, reason_over}
use Rattle.chess_sockets.proofs.RoundLemmas.{goes_on_open, closes_for, hands_closed, nothing_left}
use Rattle.chess_sockets.proofs.client.Client.hand_out.Goals as goal

pub returns-then-is_over-clause-given : goal.returns-then-is_over-clause-given
returns-then-is_over-clause-given g c =
    let client = c.args.self.now in
    let wrote = c.write_out.new.self in
    let after = c.close-then-is_over.new.self in
    let old = c.args.hub.now.sessions in
    let mid = c.write_out.new.hub.sessions in
    let new = c.close-then-is_over.new.hub.sessions in
    let contents = g.S.Write.contents in
    let at = session_at mid wrote.sid in
    let sent = c.in-Ok.wrote.sent in
    let any = c.in-Ok.wrote.any in
    let done = c.is_over.result in
    let reason = c.reason-reason.result in
    let told = c.close-then-is_over.ensures.peer in
    let kept = c.is_over.ensures.peer in
    let stays = c.write_out.ensures.peer.0 in
    let closed = subst (λ (n : ℕ). Changes mid new n None) (kept.0 ∙ stays) c.close-then-is_over.ensures.closed in
    let handed = c.in-Ok.ensures.hands in
    let hands = hands_closed (contents client.wire.stream) (contents wrote.wire.stream) (contents after.wire.stream)
    (to_go (session_at old client.sid) (waiting client.outgoing))
    (to_go (session_at mid client.sid) (waiting wrote.outgoing)) (session_at new client.sid) (waiting after.outgoing)
    (ap contents (told.5 ∙ kept.5)) closed.changed handed in
    closes_for contents client after old mid new c.write_out.ensures.given closed hands
    (subst (λ (n : ℕ). IsOver after (session_at mid n) handed.left) stays
    (reason_over after reason c.close-then-is_over.ensures.told handed.left at sent done any c.if-is_over.true
    (subst (λ (n : ℕ). IsOpen mid n) (sym stays) c.write_out.ensures.open) c.is_over.ensures.part
    (λ all. subst (λ (b : Bool). IfSome at (λ s. s.has_left ≡ false → (IsTrue done ↔ ((b ≡ true) × (any ≡ false)
    × (s.heard.bytes ≡ []) × IsUnfinished (held after.incoming))))) (sym (told.1 ∙ kept.1))
    (subst (λ (l : List ℕ). IfSome at (λ s. s.has_left ≡ false → (IsTrue done ↔ ((wrote.has_ended ≡ true) × (any ≡ false)
    × (s.heard.bytes ≡ []) × IsUnfinished l)))) (sym (told.3 ∙ kept.3)) (c.is_over.ensures.answered all)))
    c.reason-reason.ensures.fault
    (λ fault. ap (λ w. w.has_failed) (c.close-then-is_over.ensures.marks.0 ∙ c.is_over.ensures.marks)
    ∙ c.in-Ok.ensures.failed fault)
    (λ all. subst (λ (n : ℕ). IfSome (session_at mid n) (λ s. s.has_left ≡ true → reason ≡ Farewell)) kept.0
    (c.reason-reason.ensures.farewell all))
    (λ all. subst (λ (n : ℕ). IfSome (session_at mid n) (λ s. s.has_left ≡ false → reason ≡ End)) kept.0
    (c.reason-reason.ensures.end all))
    (λ all. subst (λ (n : ℕ). IfSome (session_at mid n) (λ s. due s ≡ [])) (sym stays) (c.in-Ok.ensures.due all))
    (λ all. nothing_left (session_at mid client.sid) (waiting wrote.outgoing) handed.left c.write_out.ensures.open
    (c.in-Ok.ensures.due all) (c.in-Ok.ensures.all all) handed.waits)))

pub returns-in_default-clause-given : goal.returns-in_default-clause-given
returns-in_default-clause-given g c =
    let client = c.args.self.now in
    let wrote = c.write_out.new.self in
    let old = c.args.hub.now.sessions in
    let mid = c.write_out.new.hub.sessions in
    let new = c.close.new.hub.sessions in
    let after = c.close.new.self in
    let contents = g.S.Write.contents in
    let closed = subst (λ (n : ℕ). Changes mid new n None) c.write_out.ensures.peer.0 c.close.ensures.closed in
    let hands = hands_closed (contents client.wire.stream) (contents wrote.wire.stream) (contents after.wire.stream)
    (to_go (session_at old client.sid) (waiting client.outgoing)) None (session_at new client.sid) (waiting after.outgoing)
    (ap contents c.close.ensures.peer.5) closed.changed c.in_default.ensures.refused in
    closes_for contents client after old mid new c.write_out.ensures.given closed hands
    (because after NoMemory c.close.ensures.told hands.left (session_at mid client.sid) NoMemory refl
    (inr (ap (λ o. o.was_refused) c.close.ensures.marks.1 ∙ c.in_default.ensures.memory)))

-- the session goes on
pub returns-clause-given : goal.returns-clause-given
returns-clause-given g c =
    let client = c.args.self.now in
    let wrote = c.write_out.new.self in
    let after = c.is_over.new.self in
    let old = c.args.hub.now.sessions in
    let mid = c.write_out.new.hub.sessions in
    let contents = g.S.Write.contents in
    let kept = c.is_over.ensures.peer in
    goes_on_open contents client after old mid c.write_out.ensures.given
    (subst (λ (x : Option (List ℕ)). HandsOut (contents client.wire.stream) x
    (to_go (session_at old client.sid) (waiting client.outgoing)) (to_go (session_at mid client.sid) (waiting after.outgoing)))
    (sym (ap contents kept.5)) (subst (λ (l : List ℕ). HandsOut (contents client.wire.stream) (contents wrote.wire.stream)
    (to_go (session_at old client.sid) (waiting client.outgoing)) (to_go (session_at mid client.sid) l)) (sym kept.4)
    c.in-Ok.ensures.hands)) c.write_out.ensures.open

pub returns-then-is_over-clause-store : goal.returns-then-is_over-clause-store
returns-then-is_over-clause-store g c = c.close-then-is_over.ensures.store ∙ c.write_out.ensures.store

pub returns-in_default-clause-store : goal.returns-in_default-clause-store
returns-in_default-clause-store g c = c.close.ensures.store ∙ c.write_out.ensures.store

pub returns-then-is_over-clause-refusals : goal.returns-then-is_over-clause-refusals
returns-then-is_over-clause-refusals g c = c.close-then-is_over.ensures.refusals ∙ c.write_out.ensures.refusals

pub returns-in_default-clause-refusals : goal.returns-in_default-clause-refusals
returns-in_default-clause-refusals g c = c.close.ensures.refusals ∙ c.write_out.ensures.refusals
