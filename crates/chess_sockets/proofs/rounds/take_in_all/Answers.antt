-- One client more is read for.
use Rattle.std.proofs.Common.{◌<◌, ◌+◌, ℕ, List, length, set, ap, refl, subst, sym, ◌∙◌, arith}
use Rattle.std.proofs.lemmas.Bool.{false≢true}
use Rattle.std.proofs.lemmas.List.{with_items_is}
use Rattle.chess_sockets.specs.declared.client.Client.{Client}
use Rattle.chess_sockets.specs.Rounds.{intake, Holds, AreEach, IsRead, times}
use Rattle.chess_sockets.specs.Clients.{IsLongest}
use Rattle.chess_sockets.proofs.RoundLemmas.{IsDoneTo, holds-refl, read_after, done_none, done_further, done_all}
use Rattle.chess_sockets.proofs.rounds.take_in_all.Goals as goal

pub loop-client-init : goal.loop-client-init
loop-client-init g c =
    let clients = c.args.clients.now.items in
    let sessions = c.args.hub.now.sessions in
    let items = c.deref_mut-client-items.result.now in
    let room = c.new-room.result in
    let start = intake sessions 1 in
    let Done = IsRead g.S.Read.remaining (times c.args.reading.at c.args.reading.silence) room.longest in
    record {
      done = subst (λ (n : ℕ). IsDoneTo Holds Done 0 clients items start (intake sessions n)) (sym c.new-room.ensures.lines)
          (done_none Holds holds-refl Done clients items start start c.deref_mut-client-items.ensures.value (holds-refl start));
      longest = subst (λ (n : ℕ). IsLongest sessions clients n) (sym c.new-room.ensures.longest)
          (subst (λ (l : List (Client g.row.S.Denot)). IsLongest sessions l c.longest_wait.result) c.deref.ensures.value
          c.longest_wait.ensures);
      more = λ is. absurd (false≢true is);
      store = refl;
      refusals = refl;
    }

pub bounds-client-items-client-index : goal.bounds-client-items-client-index
bounds-client-items-client-index g c = omega (arith, c.loop-client-test.true, c.loop-client.auto.client-items)

pub loop-client-smaller : goal.loop-client-smaller
loop-client-smaller g c = omega (arith, c.loop-client-test.true)

pub loop-client-preserved : goal.loop-client-preserved
loop-client-preserved g c =
    let items = c.loop-client.client-items in
    let so_far = c.loop-client.invariant in
    let room = c.loop-client.room in
    let last = c.read_for-any.new.room in
    let same = c.read_for-any.ensures.longest in
    let lt : c.loop-client.client-index < length items =
    omega (arith, c.loop-client-test.true, c.loop-client.auto.client-items) in
    record {
      done = subst (λ (n : ℕ). IsDoneTo Holds (IsRead g.S.Read.remaining (times c.args.reading.at c.args.reading.silence) n)
          (c.loop-client.client-index + 1) c.args.clients.now.items
          (set items c.loop-client.client-index c.read_for-any.new.client) (intake c.args.hub.now.sessions 1)
          (intake c.read_for-any.new.hub.sessions last.lines)) (sym same)
          (done_further Holds holds-refl
          (IsRead g.S.Read.remaining (times c.args.reading.at c.args.reading.silence) room.longest)
          (read_after g.S.Read.remaining c.args.reading.silence c.args.reading.at room.longest)
          c.args.clients.now.items items c.loop-client.client-index c.client-item.result c.read_for-any.new.client
          (intake c.args.hub.now.sessions 1) (intake c.loop-client.hub.sessions room.lines)
          (intake c.read_for-any.new.hub.sessions last.lines) lt so_far.done c.read_for-any.ensures.read);
      longest = subst (λ (n : ℕ). IsLongest c.args.hub.now.sessions c.args.clients.now.items n) (sym same) so_far.longest;
      more = λ is. omega (arith, lt, so_far.done.whole);
      store = c.read_for-any.ensures.store ∙ so_far.store;
      refusals = c.read_for-any.ensures.refusals ∙ so_far.refusals;
    }

pub returns-clause-all : goal.returns-clause-all
returns-clause-all g c =
    let clients = c.args.clients.now in
    let whole = c.loop-client.invariant.done.whole in
    ap (λ (l : List (Client g.row.S.Denot)). length l)
    (with_items_is clients c.loop-client.client-items (whole ∙ sym clients.ok.0)) ∙ whole

pub returns-clause-read : goal.returns-clause-read
returns-clause-read g c =
    let clients = c.args.clients.now in
    let items = c.loop-client.client-items in
    let so_far = c.loop-client.invariant.done in
    let room = c.loop-client.room in
    let old = intake c.args.hub.now.sessions 1 in
    let new = intake c.loop-client.hub.sessions room.lines in
    let Done = IsRead g.S.Read.remaining (times c.args.reading.at c.args.reading.silence) room.longest in
    let same = with_items_is clients items (so_far.whole ∙ sym clients.ok.0) in (
      room.lines,
      room.longest,
      c.loop-client.invariant.longest,
      subst (λ (l : List (Client g.row.S.Denot)). AreEach Holds Done clients.items l old new) (sym same)
          (done_all Holds holds-refl Done c.loop-client.client-index clients.items items old new
          (omega (arith, c.loop-client-test.false, c.loop-client.auto.client-items)) so_far),
    )

pub returns-clause-more : goal.returns-clause-more
returns-clause-more g c = c.loop-client.invariant.more

pub returns-clause-store : goal.returns-clause-store
returns-clause-store g c = c.loop-client.invariant.store

pub returns-clause-refusals : goal.returns-clause-refusals
returns-clause-refusals g c = c.loop-client.invariant.refusals
