-- What came is held back, and goes to the session.
use Rattle.std.proofs.Common.{◌∙◌, ℕ, List, None, ap, refl, subst, sym}
use Rattle.std.proofs.lemmas.Bool.{false≢true, OnTrue_from}
use Rattle.text_lines.specs.Lines.{IsUnfinished}
use Rattle.std.specs.Prelude.{IsSome, IsSomeAnd}
use Rattle.std.specs.Io.KnownBytes.{Keeps}
use Rattle.std.specs.Bool.{OnTrue}
use Rattle.chess_hub.specs.Session.{session_at, Changes}
use Rattle.chess_sockets.specs.Clients.{standing, IsSilent, IsHeldUp}
use Rattle.chess_sockets.specs.Closings.{HasFailed, WasRefused, IsForeign, IsReason}
use Rattle.chess_sockets.specs.Incoming.{held}
use Rattle.chess_sockets.specs.Sending.{waiting}
use Rattle.chess_sockets.proofs.TakingLemmas.{some_closed, up_unfinished}
use Rattle.chess_sockets.specs.Rounds.{intake, IsRead, times}
use Rattle.chess_sockets.proofs.HeardLemmas.{heard_on, end_on}
use Rattle.chess_sockets.proofs.RoundLemmas.{not_closed, passed_over, is_read, read_nothing, sends, unchanged_by, silent_written, silent_reason, reason_of_trouble, both_true, on_false}
use Rattle.chess_sockets.proofs.rounds.read_for.Goals as goal

pub returns-then-not-is_open-clause-read : goal.returns-then-not-is_open-clause-read
returns-then-not-is_open-clause-read g c =
    let client = c.args.client.now in
    let room = c.args.room.now in
    let m = session_at c.args.hub.now.sessions client.sid in
    passed_over g.S.Read.remaining c.args.reading.silence c.args.reading.at room.longest client
    (intake c.args.hub.now.sessions room.lines)
    (some_closed (λ s. IsHeldUp (waiting client.outgoing) (held client.incoming) s m) m (λ is. false≢true (sym c.if-not-is_open.true
    ∙ c.is_open.ensures.1 (subst (λ sid. IsSome (session_at c.args.hub.now.sessions sid)) (sym c.sid.ensures) is))))

pub returns-then-is_passed_over-clause-read : goal.returns-then-is_passed_over-clause-read
returns-then-is_passed_over-clause-read g c =
    let client = c.args.client.now in
    let room = c.args.room.now in
    let m = session_at c.args.hub.now.sessions client.sid in
    passed_over g.S.Read.remaining c.args.reading.silence c.args.reading.at room.longest client
    (intake c.args.hub.now.sessions room.lines)
    (up_unfinished (waiting client.outgoing) (held client.incoming) m m (c.is_passed_over.ensures c.if-is_passed_over.true))

-- Nothing came: the session may be closed.
pub returns-then-is_quiet-clause-read : goal.returns-then-is_quiet-clause-read
returns-then-is_quiet-clause-read g c =
    let rest = g.S.Read.remaining in
    let client = c.args.client.now in
    let after = c.take_in-any.new.self in
    let old = c.args.hub.now.sessions in
    let between = c.take_in-any.new.hub.sessions in
    let last = c.close_silent.new.client in
    let new = c.close_silent.new.hub.sessions in
    let done = c.close_silent.result in
    let room = c.args.room.now.lines in
    let longest = c.args.room.now.longest in
    let silence = c.args.reading.silence in
    let at = c.args.reading.at in
    let peer = c.take_in-any.ensures.peer in
    let (sid, holds, waits_on, stream, heard_at, has_ended, still) = c.close_silent.ensures.peer in
    let (idle, kept, same, stays, left, wait, none) = c.take_in-any.ensures.quiet (sym c.is_quiet.ensures ∙ c.if-is_quiet.true) in
    let open_now = subst (λ sid. IsSome (session_at old sid)) c.sid.ensures
    (c.is_open.ensures.0 c.if-not-is_open.false) in
    subst (λ n. IsRead rest (times at silence) longest client last (intake old room) (intake new n)) (sym left)
    (read_nothing rest silence at longest client last room old new done (sid ∙ peer.0) (waits_on ∙ peer.1)
    (heard_on (rest client.wire.stream) (rest after.wire.stream) (rest last.wire.stream) at client.heard_at after.heard_at last.heard_at
    c.take_in-any.ensures.heard (ap rest stream) heard_at)
    (end_on (rest after.wire.stream) (rest last.wire.stream) client.has_ended after.has_ended last.has_ended
    c.take_in-any.ensures.ended (ap rest stream) has_ended)
    (subst (λ s. Keeps (rest client.wire.stream) (rest s)) (sym stream) kept) (holds ∙ same)
    (subst (λ (l : List ℕ). IsUnfinished l) (sym holds) none) (still ∙ wait) open_now
    (OnTrue_from done _ (λ is. sym peer.1 ∙ silent_written silence after between at (c.close_silent.ensures.silent.0 is)))
    (λ waits. stream ∙ (c.take_in-any.ensures.unread waits).0)
    (subst (λ s. OnTrue done (Changes s new client.sid None)) stays
    (subst (λ n. OnTrue done (Changes between new n None)) peer.0 c.close_silent.ensures.closed))
    (subst (λ s. OnTrue done (IsReason last (IsForeign last) (IsSomeAnd silence (IsSilent last s at)) ⊥ ⊥)) stays
    (both_true done (λ is told. silent_reason silence after last between at told heard_at sid holds waits_on
    (c.close_silent.ensures.silent.0 is)) c.close_silent.ensures.told))
    (on_false done (λ e. unchanged_by old new (e ∙ stays)) c.close_silent.ensures.stays))

pub returns-clause-read : goal.returns-clause-read
returns-clause-read g c =
    let rest = g.S.Read.remaining in
    let client = c.args.client.now in
    let after = c.take_in-any.new.self in
    let old = c.args.hub.now.sessions in
    let new = c.take_in-any.new.hub.sessions in
    let room = c.args.room.now.lines in
    let longest = c.args.room.now.longest in
    let left = c.take_in-any.new.room.lines in
    let before = session_at old client.sid in
    let open_now = subst (λ sid. IsSome (session_at old sid)) c.sid.ensures
    (c.is_open.ensures.0 c.if-not-is_open.false) in
    is_read rest c.args.reading.silence c.args.reading.at longest client after (intake old room) (intake new left) c.take_in-any.ensures.peer.0
    c.take_in-any.ensures.peer.1
    (λ waits.
    let same = c.take_in-any.ensures.unread waits in
    (same.0, same.1, unchanged_by old new same.2)) c.take_in-any.ensures.heard c.take_in-any.ensures.ended
    (not_closed before _ open_now)
    (λ was none. reason_of_trouble (HasFailed after) (WasRefused after) (IsForeign after)
    (IsSomeAnd c.args.reading.silence (IsSilent after old c.args.reading.at)) after.closing
    (c.take_in-any.ensures.reason none)) c.take_in-any.ensures.refused
    (sends (standing client) (standing after) room left longest (rest client.wire.stream) (rest after.wire.stream) (waiting client.outgoing)
    (held client.incoming) (held after.incoming) client.sid old new before (session_at new client.sid) refl refl open_now c.take_in-any.ensures.taken
    c.take_in-any.ensures.others)

pub returns-then-is_quiet-clause-store : goal.returns-then-is_quiet-clause-store
returns-then-is_quiet-clause-store g c = c.close_silent.ensures.store ∙ c.take_in-any.ensures.store

pub returns-then-is_quiet-clause-refusals : goal.returns-then-is_quiet-clause-refusals
returns-then-is_quiet-clause-refusals g c = c.close_silent.ensures.refusals ∙ c.take_in-any.ensures.refusals
