-- The store is asked by the hub's turn alone; what is done for the clients is done to the sessions alone, and leaves the
-- store as it is.
use Rattle.std.proofs.Common.{◌≡◌, ◌∙◌, Bool, Err, length, ap, refl, sym}
use Rattle.std.proofs.lemmas.Result.{IfErr-at_err}
use Rattle.chess_hub.specs.Faults.{CountsFault}
use Rattle.chess_hub.specs.Turning.{AsksFor, AreRefused, IsTurnFault}
use Rattle.chess_sockets.specs.Serving.{served, HasServed}
use Rattle.chess_sockets.proofs.ServingLemmas.{are_read, are_written, some_there}
use Rattle.chess_sockets.proofs.StoreLemmas.{lasts_over, lasts_refused, of_answered, of_refused, turn_ends, turn_refusal, counts_refused, counts_done}
use Rattle.chess_sockets.proofs.server.serve_clients.Goals as goal
use Rattle.chess_hub.specs.Storing.{StoreMayBeAsked, StoreRefuses}
use Rattle.chess_sockets.specs.Rounds.{times}
use Rattle.chess_sockets.specs.Turns.{IsRefusal}
use Rattle.chess_hub.specs.Law.{state_of, hub_state, hub_store, hub_refusals}

-- ---- who is served

pub returns-clause-served : goal.returns-clause-served
returns-clause-served g c =
    let old = c.args.hub.now in
    let heard = c.take_in_all-has_read.new.hub in
    let answered = c.turn.new.self in
    let written = c.hand_out_all-has_written.new.hub in
    let read = c.take_in_all-has_read.new.clients.items in
    let last = c.hand_out_all-has_written.new.clients.items in
    let when = times c.args.reading.at c.args.reading.silence in
    let serves : HasServed g.S.Read.remaining g.S.Write.contents when (StoreMayBeAsked (hub_store old))
    (served c.args.clients.now.items (hub_state old))
    (served last (hub_state written)) =
    rw (c.hand_out_all-has_written.ensures.store, sym c.take_in_all-has_read.ensures.store)
    (record {
      answered = served read (hub_state answered);
      answers = record {
        heard = hub_state heard;
        reads = are_read (hub_state heard).table g.S.Read.remaining c.args.reading.silence c.args.reading.at
            c.args.clients.now.items read old.sessions heard.sessions
            c.take_in_all-has_read.ensures.read;
        turned = of_answered c.turn.result tt c.in_default.is c.turn.ensures.turned;
        works = of_answered c.turn.result tt c.in_default.is c.turn.ensures.works;
      };
      writes = are_written (hub_state answered).table g.S.Write.contents read last answered.sessions written.sessions
          c.hand_out_all-has_written.ensures.written;
    }) in
    serves

-- ---- whether there is more to do

pub returns-clause-more : goal.returns-clause-more
returns-clause-more g c = λ is. some_there c.take_in_all-has_read.result c.hand_out_all-has_written.result
    (length c.args.clients.now.items) (length c.take_in_all-has_read.new.clients.items) is
    c.take_in_all-has_read.ensures.more c.hand_out_all-has_written.ensures.more c.take_in_all-has_read.ensures.all

-- ---- what is left of the store

pub returns-in-Err-clause-lasts : goal.returns-in-Err-clause-lasts
returns-in-Err-clause-lasts g c =
    let s = hub_store c.take_in_all-has_read.new.hub in
    let n = hub_store c.turn.new.self in
    let state = g.D.Device.state in
    rw (sym c.take_in_all-has_read.ensures.store)
    (λ kept. lasts_refused c.turn.result c.in-Err.fault (state s.journal.device) (state n.journal.device)
    n.journal.header n.journal.compaction s.table n.table c.in-Err.is (c.turn.ensures.lasts kept))

pub returns-clause-lasts : goal.returns-clause-lasts
returns-clause-lasts g c =
    let s = hub_store c.take_in_all-has_read.new.hub in
    let n = hub_store c.turn.new.self in
    let state = g.D.Device.state in
    rw (c.hand_out_all-has_written.ensures.store, sym c.take_in_all-has_read.ensures.store)
    (λ kept. lasts_over c.turn.result tt _ (state s.journal.device) (state n.journal.device) n.journal.header
    n.journal.compaction s.table n.table c.in_default.is (c.turn.ensures.lasts kept))

-- ---- why it ends serving

pub returns-in-Err-clause-fault : goal.returns-in-Err-clause-fault
returns-in-Err-clause-fault g c =
    let s = hub_store c.take_in_all-has_read.new.hub in
    let n = hub_store c.turn.new.self in
    let heard = c.take_in_all-has_read.new.hub.sessions in
    turn_ends (n ≡ s) c.args.reading.at heard s.journal.header.seq s.failed s.table n.table c.in-Err.fault
    (IfErr-at_err (λ fault. IsTurnFault fault (n ≡ s) (λ refused. AsksFor c.args.reading.at 64 heard
    (AreRefused refused s.journal.header.seq s.failed s.table n.table))) c.in-Err.is c.turn.ensures.fault)

pub returns-in-Err-clause-refused : goal.returns-in-Err-clause-refused
returns-in-Err-clause-refused g c =
    let old = c.args.hub.now in
    let s = hub_store c.take_in_all-has_read.new.hub in
    let n = hub_store c.turn.new.self in
    let heard = c.take_in_all-has_read.new.hub.sessions in
    let read = c.take_in_all-has_read.new.clients.items in
    let when = times c.args.reading.at c.args.reading.silence in
    let refusal : IsRefusal g.S.Read.remaining when (StoreRefuses (hub_store old) n) c.in-Err.fault
    (served c.args.clients.now.items (hub_state old))
    (served read (state_of c.turn.new.self.sessions n.table)) =
    rw (sym c.take_in_all-has_read.ensures.store)
    (turn_refusal (n ≡ s) c.args.reading.at heard s.journal.header.seq s.failed s.table n.table _ c.args.reading.silence
    c.args.clients.now.items read (state_of old.sessions s.table) (state_of c.turn.new.self.sessions n.table) s.table
    (are_read s.table g.S.Read.remaining c.args.reading.silence c.args.reading.at c.args.clients.now.items read old.sessions heard c.take_in_all-has_read.ensures.read)
    (of_refused c.turn.result c.in-Err.fault c.in-Err.is c.turn.ensures.unchanged) refl refl
    (λ e. ap (λ s. s.table) e) c.in-Err.fault
    (IfErr-at_err (λ fault. IsTurnFault fault (n ≡ s) (λ refused. AsksFor c.args.reading.at 64 heard
    (AreRefused refused s.journal.header.seq s.failed s.table n.table))) c.in-Err.is c.turn.ensures.fault)) in
    refusal

-- ---- the count of failures

pub returns-in-Err-clause-cause_err : goal.returns-in-Err-clause-cause_err
returns-in-Err-clause-cause_err g c =
    let failures = g.D.Device.failures in
    rw (sym c.take_in_all-has_read.ensures.store)
    (IfErr-at_err (λ fault. CountsFault fault (failures (hub_store c.take_in_all-has_read.new.hub).journal.device)
    (failures (hub_store c.turn.new.self).journal.device)) c.in-Err.is c.turn.ensures.tried.cause_err)

-- ---- the count of refusals

pub returns-in-Err-clause-counts : goal.returns-in-Err-clause-counts
returns-in-Err-clause-counts g c =
    rw (sym c.take_in_all-has_read.ensures.refusals)
    (counts_refused {T = Bool} c.turn.result (Err c.in-Err.fault) c.in-Err.fault
    c.in-Err.fault (hub_refusals c.take_in_all-has_read.new.hub) (hub_refusals c.turn.new.self) c.in-Err.is refl refl
    c.turn.ensures.counts)

pub returns-clause-counts : goal.returns-clause-counts
returns-clause-counts g c =
    c.hand_out_all-has_written.ensures.refusals
    ∙ counts_done c.turn.result tt (hub_refusals c.take_in_all-has_read.new.hub) (hub_refusals c.turn.new.self)
    c.in_default.is c.turn.ensures.counts
    ∙ c.take_in_all-has_read.ensures.refusals
