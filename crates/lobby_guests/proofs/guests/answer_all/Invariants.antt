-- Those so far are answered, and the others are as they were.
use Rattle.std.proofs.Common.{◌≡◌}
use Rattle.lobby_guests.specs.Guests.{IsCaughtUp, IsAnsweredAt, answered_most}
use Rattle.lobby_talk.proofs.Each.{IsZippedTo}
use Rattle.lobby_guests.proofs.EachGuest.{IsTurnedTo}
use Rattle.lobby_guests.proofs.guests.answer_all.Given as goal

abbrev pub invariant-loop-guest : goal.invariant-loop-guest
invariant-loop-guest g l = record {
  up : IsZippedTo (IsCaughtUp l.fn.counts.at) l.guest-index l.fn.guests.items l.guest-items;
  answered : IsTurnedTo (IsAnsweredAt l.fn.answer) l.guest-index l.fn.guests.items l.guest-items answered_most l.left;
  at : l.counts.at ≡ l.fn.counts.at;
  logins : l.counts.logins_refused ≡ l.fn.counts.logins_refused;
}
