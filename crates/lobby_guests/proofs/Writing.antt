-- To nobody is written.
use Rattle.std.proofs.Common.{◌≡◌, ℕ, List, [], ◌∷◌, Option, None, Some, inl, refl, sym, arith}
use Rattle.std.proofs.lemmas.List.{append-nil}
use Rattle.std.specs.Io.KnownBytes.{Appends}
use Rattle.std.specs.List.{AllZip}
use Rattle.lobby_desk.specs.declared.desk.Desk.{Desk}
use Rattle.lobby_web.specs.declared.site.Site.{Site}
use Rattle.lobby_guests.specs.declared.guest.Guest.{Guest}
use Rattle.lobby_guests.specs.Guests.{IsWritten, LeavesStranger}

none_appended : (had : Option (List ℕ)) → Appends had had []
none_appended None = tt
none_appended (Some bytes) = sym (append-nil bytes)

module _ {S : Type 0} (contents : S → Option (List ℕ)) (site : Site) where
  unwritten : (guest : Guest S) → IsWritten contents site guest guest
  unwritten guest = record {
    number = refl;
    waits = refl;
    visit = record { key = refl; origin = refl; since = refl; heard = refl };
    paid = refl;
    logins = refl;
    lost = inl refl;
    count = 0;
    within = omega arith;
    few = omega arith;
    written = none_appended (contents guest.stream);
    goes = inl (refl, refl);
    more = inl refl;
    keeps = λ so. so;
  }

  pub all_unwritten : (guests : List (Guest S)) → AllZip (IsWritten contents site) guests guests
  all_unwritten [] = tt
  all_unwritten (guest ∷ guests) = (unwritten guest, all_unwritten guests)

  -- What is written to one, and to who acts for nobody nothing.
  pub record IsWrittenFirst (desk : Desk) (old new : Guest S) : Type 0 where
    pub written : IsWritten contents site old new
    pub stranger : LeavesStranger desk old new

  pub all_written : (desk : Desk) (old new : List (Guest S)) → AllZip (IsWrittenFirst desk) old new → AllZip (IsWritten contents site) old new
  all_written desk [] [] all = tt
  all_written desk [] (y ∷ ys) all = absurd all
  all_written desk (x ∷ xs) [] all = absurd all
  all_written desk (x ∷ xs) (y ∷ ys) (one, all) = (one.written, all_written desk xs ys all)

  pub all_strangers : (desk : Desk) (old new : List (Guest S)) → AllZip (IsWrittenFirst desk) old new → AllZip (LeavesStranger desk) old new
  all_strangers desk [] [] all = tt
  all_strangers desk [] (y ∷ ys) all = absurd all
  all_strangers desk (x ∷ xs) [] all = absurd all
  all_strangers desk (x ∷ xs) (y ∷ ys) (one, all) = (one.stranger, all_strangers desk xs ys all)
