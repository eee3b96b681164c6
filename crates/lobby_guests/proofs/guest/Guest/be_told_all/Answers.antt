use Rattle.std.proofs.Common.{ℕ, Bool, get_or, take, subst, ap, sym, ◌∙◌}
use Rattle.lobby_desk.specs.declared.telling.Message.{Message}
use Rattle.lobby_guests.specs.Guests.{IsTold}
use Rattle.lobby_talk.specs.Counting.{counted_up, one_if, refuses, refusals_of}
use Rattle.lobby_guests.proofs.Telling.{told_further, refusals_more, counted_more}
use Rattle.lobby_guests.proofs.guest.Guest.be_told_all.Goals as goal

pub loop-one-preserved : goal.loop-one-preserved
loop-one-preserved g c =
    let at = c.args.counts.now.at in
    let told : IsTold at c.one-item.result c.loop-one.self c.be_told.new.self =
    subst (λ (n : ℕ). IsTold n c.one-item.result c.loop-one.self c.be_told.new.self) c.loop-one.invariant.at
    c.in_ok-be_told.ensures.told in
    let made = c.args.made.now in
    let i = c.loop-one.one-index in
    let d = c.one-item.result in
    let number = c.args.self.now.number in
    let before = c.loop-one.counts.logins_refused in
    record {
      told = told_further at c.loop-one.one-index c.args.made.now c.one-item.result c.args.self.now c.loop-one.self c.be_told.new.self
          c.loop-one-test.true c.loop-one.invariant.told
          (subst (λ (m : Message). IsTold at m c.loop-one.self c.be_told.new.self) c.one-item.is told);
      number = told.number ∙ c.loop-one.invariant.number;
      at = c.in_ok-be_told.ensures.at ∙ c.loop-one.invariant.at;
      logins =
          counted_more c.args.counts.now.logins_refused before (refusals_of (take i made) number)
          (one_if (refuses number (get_or made i d))) c.be_told.new.counts.logins_refused c.loop-one.invariant.logins
          (c.in_ok-be_told.ensures.logins
          ∙ ap (λ (b : Bool). counted_up before (one_if b))
          (ap (λ n. refuses n d) c.loop-one.invariant.number ∙ ap (refuses number) c.one-item.is))
          ∙ ap (counted_up c.args.counts.now.logins_refused) (sym (refusals_more made number i d c.loop-one-test.true));
    }
