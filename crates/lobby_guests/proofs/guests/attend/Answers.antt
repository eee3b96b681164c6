-- It is read for first, and then heard.
use Rattle.std.proofs.Common.{ℕ, Bool, Option, ap, subst, ◌∙◌}
use Rattle.lobby_talk.specs.Talking.{acts_at}
use Rattle.lobby_guests.specs.Guests.{IsPaid}
use Rattle.lobby_guests.proofs.guests.attend.Goals as goal

pub returns : goal.returns
returns g c = record {
  attended = record {
    read = c.read_in-has_read.new.self;
    reads = c.read_in-has_read.ensures.read;
    hears = c.in_ok-has_heard.ensures.heard;
  };
  asks = c.in_ok-has_heard.ensures.asks;
  waits = c.in_ok-has_heard.ensures.waits;
  pays = subst (λ (acts : Bool). IsPaid g.S.Read.remaining acts c.args.at c.args.guest.now c.read_in-has_read.new.self)
      (c.acts-acts.ensures ∙ ap (λ (n : Option ℕ). acts_at c.args.talk.now.desk n) c.number.ensures)
      c.read_in-has_read.ensures.paid;
  owes = c.in_ok-has_heard.ensures.owes;
}
