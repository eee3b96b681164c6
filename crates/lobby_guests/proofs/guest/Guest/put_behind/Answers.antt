-- One more waits; where too many do, it is to be closed.
use Rattle.std.proofs.Common.{◌||◌, ◌<◌, ◌≤◌, Bool, length, refl, ap, sym, arith, lt-ltb, le-ltb}
use Rattle.lobby_guests.proofs.guest.Guest.put_behind.Goals as goal

pub returns-then-len-gt-WAITING_MOST : goal.returns-then-len-gt-WAITING_MOST
returns-then-len-gt-WAITING_MOST g c =
    let old = c.args.self.now in
    let most : 1024 < length c.push.new.self.items = omega (arith, c.if-len-gt-WAITING_MOST.true, c.len.ensures) in
    record {
      number = refl;
      stream = refl;
      browser = refl;
      visit = record { key = refl; origin = refl; since = refl; heard = refl };
      paid = refl;
      logins = refl;
      more = refl;
      lost = sym (ap (λ (b : Bool). b || old.is_lost) (lt-ltb 1024 (length c.push.new.self.items) most));
      one = c.in_ok-one.one;
      copy = c.in_ok-one.ensures;
      waits = c.in_ok-push.ensures.items;
    }

pub returns-else-len-gt-WAITING_MOST : goal.returns-else-len-gt-WAITING_MOST
returns-else-len-gt-WAITING_MOST g c =
    let old = c.args.self.now in
    let few : length c.push.new.self.items ≤ 1024 = omega (arith, c.if-len-gt-WAITING_MOST.false, c.len.ensures) in
    record {
      number = refl;
      stream = refl;
      browser = refl;
      visit = record { key = refl; origin = refl; since = refl; heard = refl };
      paid = refl;
      logins = refl;
      more = refl;
      lost = sym (ap (λ (b : Bool). b || old.is_lost) (le-ltb 1024 (length c.push.new.self.items) few));
      one = c.in_ok-one.one;
      copy = c.in_ok-one.ensures;
      waits = c.in_ok-push.ensures.items;
    }
