-- One client more is written to.
use Rattle.std.proofs.Common.{◌<◌, List, length, refl, subst, sym, ◌∙◌, arith}
use Rattle.std.proofs.lemmas.Bool.{false≢true}
use Rattle.std.proofs.lemmas.List.{with_items_is}
use Rattle.chess_hub.specs.Session.{IsUnchanged}
use Rattle.chess_sockets.specs.declared.client.Client.{Client}
use Rattle.chess_sockets.specs.Rounds.{AreEach, IsWritten}
use Rattle.chess_sockets.proofs.RoundLemmas.{unchanged-refl, written_after, done_none, done_further, done_all}
use Rattle.chess_sockets.proofs.rounds.hand_out_all.Goals as goal

pub loop-client-init : goal.loop-client-init
loop-client-init g c = record {
  done = done_none IsUnchanged unchanged-refl (IsWritten g.S.Write.contents) c.args.clients.now.items
      c.deref_mut-client-items.result.now c.args.hub.now.sessions c.args.hub.now.sessions c.deref_mut-client-items.ensures.value
      (unchanged-refl c.args.hub.now.sessions);
  more = λ is. absurd (false≢true is);
  store = refl;
  refusals = refl;
}

pub bounds-client-items-client-index : goal.bounds-client-items-client-index
bounds-client-items-client-index g c = omega (arith, c.loop-client-test.true, c.loop-client.auto.client-items)

pub loop-client-smaller : goal.loop-client-smaller
loop-client-smaller g c = omega (arith, c.loop-client-test.true)

pub loop-client-preserved : goal.loop-client-preserved
loop-client-preserved g c =
    let items = c.loop-client.client-items in
    let lt : c.loop-client.client-index < length items =
    omega (arith, c.loop-client-test.true, c.loop-client.auto.client-items) in
    let so_far = c.loop-client.invariant in
    record {
      done = done_further IsUnchanged unchanged-refl (IsWritten g.S.Write.contents) (written_after g.S.Write.contents)
          c.args.clients.now.items items c.loop-client.client-index c.client-item.result c.write_for-any.new.client
          c.args.hub.now.sessions c.loop-client.hub.sessions c.write_for-any.new.hub.sessions lt so_far.done c.write_for-any.ensures.written;
      more = λ is. omega (arith, lt, so_far.done.whole);
      store = c.write_for-any.ensures.store ∙ so_far.store;
      refusals = c.write_for-any.ensures.refusals ∙ so_far.refusals;
    }

pub returns-clause-written : goal.returns-clause-written
returns-clause-written g c =
    let clients = c.args.clients.now in
    let items = c.loop-client.client-items in
    let so_far = c.loop-client.invariant.done in
    let old = c.args.hub.now.sessions in
    let new = c.loop-client.hub.sessions in
    let Done = IsWritten g.S.Write.contents in
    subst (λ (l : List (Client g.row.S.Denot)). AreEach IsUnchanged Done clients.items l old new)
    (sym (with_items_is clients items (so_far.whole ∙ sym clients.ok.0)))
    (done_all IsUnchanged unchanged-refl Done c.loop-client.client-index clients.items items old new
    (omega (arith, c.loop-client-test.false, c.loop-client.auto.client-items)) so_far)

pub returns-clause-more : goal.returns-clause-more
returns-clause-more g c = c.loop-client.invariant.more

pub returns-clause-store : goal.returns-clause-store
returns-clause-store g c = c.loop-client.invariant.store

pub returns-clause-refusals : goal.returns-clause-refusals
returns-clause-refusals g c = c.loop-client.invariant.refusals
