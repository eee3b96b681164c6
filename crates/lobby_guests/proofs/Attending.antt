-- Who has its turn is attended, and to who has none nothing happens.
use Rattle.std.proofs.Common.{◌≡◌, ℕ, ◌&&◌, ◌||◌, Bool, true, false, List, [], ◌∷◌, Option, Some, None, inl, inr, refl, ap, arith}
use Rattle.std.specs.Io.KnownBytes.{Consumes}
use Rattle.lobby_web.specs.declared.site.Site.{Site}
use Rattle.lobby_guests.specs.declared.guest.Guest.{Guest}
use Rattle.lobby_talk.specs.declared.talk.Talk.{Talk}
use Rattle.lobby_guests.specs.Guests.{InTurn, IsAttended, IsHeard, IsPlayerHeard, IsPlayerServed, IsServedIf, IsPlayersTurn, IsOthersTurn, Room, Asking, has_time}
use Rattle.lobby_talk.specs.Talking.{acts_at}
use Rattle.lobby_guests.proofs.EachGuest.{in_turn_as}

-- what neither is, each is not
pub or_left : (a b : Bool) → (a || b) ≡ false → a ≡ false
or_left true b none = none
or_left false b none = refl

pub or_right : (a b : Bool) → (a || b) ≡ false → b ≡ false
or_right true b none = cc
or_right false b none = none

module _ {S : Type 0} (remaining : S → Option (List ℕ)) (site : Site) (at : ℕ) where
  -- nothing comes
  none_consumed : (had : Option (List ℕ)) → Consumes had had []
  none_consumed None = tt
  none_consumed (Some bytes) = refl

  left_alone : (old new : Guest S) (talk after : Talk) → new ≡ old → after ≡ talk → IsAttended remaining site at old new talk after
  left_alone old new talk after same still = record {
    read = old;
    reads = record {
      number = refl;
      waits = refl;
      key = refl;
      since = refl;
      logins = refl;
      lost = inl refl;
      taken = [];
      origin = inl (refl, refl);
      consumed = none_consumed (remaining old.stream);
      takes = inl (refl, refl);
    };
    hears = inr (same, still);
  }

  -- who acts for a player is read for, and heard or put off
  heard_or_not : (old new : Guest S) (room after : Asking) → IsPlayerHeard at old new room after → IsHeard at old new room.talk after.talk
  heard_or_not old new room after (inl (paced, inl acts)) = acts.heard.heard
  heard_or_not old new room after (inl (paced, inr (inl brief))) = brief.heard.heard
  heard_or_not old new room after (inl (paced, inr (inr long))) = long.heard.heard
  heard_or_not old new room after (inr (inl ahead)) = inr (ahead.guest, ap (λ (r : Asking). r.talk) ahead.rest)
  heard_or_not old new room after (inr (inr off)) = inr (off.guest, ap (λ (r : Asking). r.talk) off.rest)

  served_if : (b : Bool) (old new : Guest S) (room after : Asking) →
      IsServedIf b (IsPlayerServed remaining site at old new room after) old new room after →
      IsAttended remaining site at old new room.talk after.talk
  served_if true old new room after served = record {
    read = served.read;
    reads = served.reads;
    hears = heard_or_not served.read new room after served.hears;
  }
  served_if false old new room after (same, still) =
      left_alone old new room.talk after.talk same (ap (λ (r : Asking). r.talk) still)

  players_attended : (old new : Guest S) (room after : Asking) → IsPlayersTurn remaining site at old new room after →
      IsAttended remaining site at old new room.talk after.talk
  players_attended old new room after turn =
      served_if (acts_at room.talk.desk old.number && has_time at old.paid_until) old new room after turn

  pub players_pass : (old new : List (Guest S)) (room after : Asking) → InTurn (IsPlayersTurn remaining site at) old new room after →
      InTurn (IsAttended remaining site at) old new room.talk after.talk
  players_pass old new room after turns =
      in_turn_as (λ (r : Asking). r.talk) (IsPlayersTurn remaining site at) (IsAttended remaining site at)
      (λ x y a b one. players_attended x y a b one) old new room after turns

  others_attended : (old new : Guest S) (room after : Room) → IsOthersTurn remaining site at old new room after →
      IsAttended remaining site at old new room.talk after.talk
  others_attended old new room after (inl over) = left_alone old new room.talk after.talk over.guest over.talk
  others_attended old new room after (inr called) = called.served.attended

  pub others_pass : (old new : List (Guest S)) (room after : Room) →
      InTurn (IsOthersTurn remaining site at) old new room after → InTurn (IsAttended remaining site at) old new room.talk after.talk
  others_pass old new room after turns =
      in_turn_as (λ (r : Room). r.talk) (IsOthersTurn remaining site at) (IsAttended remaining site at)
      (λ x y a b one. others_attended x y a b one) old new room after turns

  -- where nobody is called all are passed over
  pub nobody_called : (guests : List (Guest S)) (room : Room) → InTurn (IsOthersTurn remaining site at) guests guests room room
  nobody_called [] room = (refl, refl)
  nobody_called (guest ∷ guests) room =
      (guest, guests, room, refl, inl (record { guest = refl; talk = refl; left = omega arith }), nobody_called guests room)
