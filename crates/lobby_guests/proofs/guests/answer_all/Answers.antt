-- One browser more.
use Rattle.std.proofs.Common.{ℕ, List, get_or, arith, refl, sym, subst, ◌∙◌}
use Rattle.std.proofs.lemmas.List.{with_items_is}
use Rattle.lobby_guests.specs.declared.guest.Guest.{Guest}
use Rattle.lobby_guests.specs.Guests.{IsCaughtUp, InTurn, IsAnsweredAt, answered_most}
use Rattle.lobby_talk.proofs.Each.{zipped_none, zipped_further}
use Rattle.lobby_guests.proofs.EachGuest.{turned_none, turned_further, turned_all}
use Rattle.lobby_guests.proofs.guests.answer_all.Goals as goal

pub loop-guest-init : goal.loop-guest-init
loop-guest-init g c = record {
  up = zipped_none (IsCaughtUp c.args.counts.now.at) c.args.guests.now.items c.deref_mut-guest-items.result.now
      c.deref_mut-guest-items.ensures.value;
  answered = turned_none (IsAnsweredAt c.args.answer.now) c.args.guests.now.items c.deref_mut-guest-items.result.now answered_most
      c.deref_mut-guest-items.ensures.value;
  at = refl;
  logins = refl;
}

pub loop-guest-preserved : goal.loop-guest-preserved
loop-guest-preserved g c = record {
  up = zipped_further (IsCaughtUp c.args.counts.now.at) c.args.guests.now.items c.loop-guest.guest-items c.loop-guest.guest-index c.guest-item.result
      c.be_answered.new.self (omega (arith, c.loop-guest-test.true, c.loop-guest.auto.guest-items)) c.loop-guest.invariant.up
      (subst (λ (n : ℕ). IsCaughtUp n (get_or c.loop-guest.guest-items c.loop-guest.guest-index c.guest-item.result) c.be_answered.new.self)
      c.loop-guest.invariant.at c.be_answered.ensures.up);
  answered = turned_further (IsAnsweredAt c.args.answer.now) c.args.guests.now.items c.loop-guest.guest-items c.loop-guest.guest-index
      c.guest-item.result c.be_answered.new.self answered_most c.loop-guest.left c.be_answered.new.left
      (omega (arith, c.loop-guest-test.true, c.loop-guest.auto.guest-items)) c.loop-guest.invariant.answered
      c.be_answered.ensures.answered;
  at = c.be_answered.ensures.counts.at ∙ c.loop-guest.invariant.at;
  logins = c.be_answered.ensures.counts.logins ∙ c.loop-guest.invariant.logins;
}

pub returns-clause-answered : goal.returns-clause-answered
returns-clause-answered g c =
    let guests = c.args.guests.now in
    let items = c.loop-guest.guest-items in
    let so_far = c.loop-guest.invariant.answered in
    let does = IsAnsweredAt c.args.answer.now in
    let same = with_items_is guests items (so_far.whole ∙ sym guests.ok.0) in (
      c.loop-guest.left,
      subst (λ (l : List (Guest g.row.S.Denot)). InTurn does guests.items l answered_most c.loop-guest.left) (sym same)
          (turned_all does c.loop-guest.guest-index guests.items items answered_most c.loop-guest.left
          (omega (arith, c.loop-guest-test.false, c.loop-guest.auto.guest-items)) so_far),
    )
