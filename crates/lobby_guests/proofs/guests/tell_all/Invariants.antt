-- Those so far are told, and the others are as they were.
use Rattle.std.proofs.Common.{◌≡◌, take}
use Rattle.lobby_guests.specs.Guests.{AreTold}
use Rattle.lobby_guests.specs.Counting.{refusals_in}
use Rattle.lobby_talk.specs.Counting.{counted_up}
use Rattle.lobby_talk.proofs.Each.{IsZippedTo}
use Rattle.lobby_guests.proofs.guests.tell_all.Given as goal

abbrev pub invariant-loop-guest : goal.invariant-loop-guest
invariant-loop-guest g l = record {
  told : IsZippedTo (AreTold l.fn.counts.at l.made) l.guest-index l.fn.guests.items l.guest-items;
  at : l.counts.at ≡ l.fn.counts.at;
  logins : l.counts.logins_refused ≡ counted_up l.fn.counts.logins_refused (refusals_in l.made (take l.guest-index l.fn.guests.items));
}
