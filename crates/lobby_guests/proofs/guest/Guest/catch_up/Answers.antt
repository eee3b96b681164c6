-- One more is told, or none is left in front of the next answer.
use Rattle.std.proofs.Common.{ℕ, ◌<◌, [], ◌∷◌, ◌∙◌, length, refl, ap, sym, subst, arith}
use Rattle.lobby_guests.specs.declared.guest.Guest.{Guest}
use Rattle.lobby_guests.specs.Guests.{AreNextTold, IsNextTold}
use Rattle.lobby_guests.specs.Waiting.{AtLine}
use Rattle.lobby_guests.proofs.Catching.{one_line, one_whole}
use Rattle.lobby_guests.proofs.guest.Guest.catch_up.Goals as goal

pub loop-init : goal.loop-init
loop-init g c = record {
  front = c.tell_answer.ensures.told.0 ∷ [];
  are = (c.args.self.now, refl, c.tell_answer.ensures.told.1);
  once = one_line c.tell_answer.ensures.told.0;
  fewer = omega (arith, ap length c.tell_answer.ensures.told.1.first);
  at = c.tell_answer.ensures.counts.at;
  logins = c.tell_answer.ensures.counts.logins;
}

pub loop-preserved : goal.loop-preserved
loop-preserved g c =
    let told = c.tell_whole.ensures.told c.loop-test.true in
    record {
      front = told.0 ∷ c.loop.invariant.front;
      are = (
        c.loop.self,
        c.loop.invariant.are,
        subst (λ (n : ℕ). IsNextTold n told.0 c.loop.self c.tell_whole.new.self) c.loop.invariant.at told.2,
      );
      once = one_whole told.0 c.loop.invariant.front told.1 c.loop.invariant.once;
      fewer = omega (arith, ap length told.2.first, c.loop.invariant.fewer);
      at = c.tell_whole.ensures.counts.at ∙ c.loop.invariant.at;
      logins = c.tell_whole.ensures.counts.logins ∙ c.loop.invariant.logins;
    }

pub returns-clause-up : goal.returns-clause-up
returns-clause-up g c =
    let same = sym (c.tell_whole.ensures.none c.loop-test.false) in
    let at = c.args.counts.now.at in
    record {
      front = c.loop.invariant.front;
      are = subst (λ (guest : Guest g.row.S.Denot). AreNextTold at c.loop.invariant.front c.args.self.now guest) same c.loop.invariant.are;
      once = c.loop.invariant.once;
      at_line = λ at. subst (λ (guest : Guest g.row.S.Denot). AtLine guest.waits.items) same (c.tell_whole.ensures.line c.loop-test.false);
    }

pub returns-clause-fewer : goal.returns-clause-fewer
returns-clause-fewer g c =
    subst (λ (guest : Guest g.row.S.Denot). length guest.waits.items < length c.args.self.now.waits.items)
    (sym (c.tell_whole.ensures.none c.loop-test.false)) c.loop.invariant.fewer

pub returns-clause-counts : goal.returns-clause-counts
returns-clause-counts g c = record {
  at = c.tell_whole.ensures.counts.at ∙ c.loop.invariant.at;
  logins = c.tell_whole.ensures.counts.logins ∙ c.loop.invariant.logins;
}
