-- The places of connections.
use Rattle.std.specs.Prelude.{ℕ, ◌≡◌, Bool, true, false, List, [], ◌∷◌, map}
use Rattle.std.specs.List.{AllZip}
use Rattle.lobby_desk.specs.declared.desk.Desk.{Desk}
use Rattle.lobby_guests.specs.declared.guest.Guest.{Guest}
use Rattle.lobby_guests.specs.declared.place.Place.{Place}
use Rattle.lobby_guests.specs.Guests.{IsAsBefore}
use Rattle.lobby_guests.specs.Place.{place_of, Yields}
use Rattle.lobby_loop.specs.Places.{each_own, judged, IsOwned, IsFair}

abbrev pub AreYielding : {S : Type 0} → List Place → List (Guest S) → List (Guest S) → Type 0
AreYielding [] [] [] = Unit {0}
AreYielding (p ∷ ps) (g ∷ gs) (h ∷ hs) = Yields p g h × AreYielding ps gs hs
AreYielding _ _ _ = ⊥

-- By these places those go who are to make room.
pub record YieldAt {S : Type 0} (at from : ℕ) (places : List Place) (old new : List (Guest S)) : Type 0 where
  pub yields : AreYielding (judged at from places) old new
  pub fair : IsFair at from places (judged at from places)

-- Connections are judged: first those are to be closed that act for a player for whom too many do, then those that are
-- to make room, and nothing else changes.
pub record AreSeated {S : Type 0} (at from : ℕ) (desk : Desk) (old new : List (Guest S)) : Type 0 where
  pub before : AllZip IsAsBefore old new
  pub owned : List Place
  pub owned_are : owned ≡ each_own (map (place_of desk) old) (map (place_of desk) old)
  pub few : IsOwned (map (place_of desk) old) owned
  pub judged_so : map (place_of desk) new ≡ judged at from owned
  pub fair : IsFair at from owned (map (place_of desk) new)

-- The same where it is due, and else all stay as they were.
pub record AreSeatedIf {S : Type 0} (is_due : Bool) (at from : ℕ) (desk : Desk)
    (old new : List (Guest S)) : Type 0 where
  pub before : AllZip IsAsBefore old new
  pub seats : is_due ≡ true → AreSeated at from desk old new
  pub same : is_due ≡ false → new ≡ old
