-- A connection's place, as the desk has it, and who gives it up.
use Rattle.std.specs.Prelude.{ℕ, ◌≡◌, ◌||◌, ◌&&◌, nat_lt, not, if◌then◌else◌, Bool, true, false, Option, is_some, length}
use Rattle.lobby_desk.specs.declared.desk.Desk.{Desk}
use Rattle.lobby_talk.specs.Talking.{acts_at}
use Rattle.lobby_guests.specs.declared.guest.Guest.{Guest}
use Rattle.lobby_guests.specs.declared.place.Place.{Place}
use Rattle.lobby_guests.specs.declared.place.Role.{Role}
use Rattle.lobby_guests.specs.declared.place.Role.TheVariants.{Gone, Player, Newcomer}
use Rattle.lobby_guests.specs.declared.place.Work.{Work}
use Rattle.lobby_guests.specs.declared.place.Work.TheVariants.{Answering, Idle, Awaited}
use Rattle.lobby_web.specs.Browsing.{pending}
use Rattle.lobby_web.specs.Heading.{has_begun}
use Rattle.lobby_guests.specs.Guests.{IsAsBefore}
pub use Rattle.lobby_guests.specs.Paces.{player_of}

-- it is to be closed
abbrev pub is_gone : Role → Bool
is_gone Gone = true
is_gone Player = false
is_gone Newcomer = false

-- what a connection is to the lobby that acts for a player or not
abbrev pub role_by : Bool → Role
role_by true = Player
role_by false = Newcomer

-- what a connection is that is to be closed or not, and has this number at the desk
abbrev pub role_of : Desk → Bool → Option ℕ → Role
role_of desk true number = Gone
role_of desk false number = role_by (acts_at desk number)

-- Something of it may be left to hear, or something to write to it.
abbrev pub is_answering : {S : Type 0} → Guest S → Bool
is_answering guest = guest.has_more || nat_lt 0 (length (pending guest.browser.stage))

-- Something was read of one whose socket is not open, and nothing more is there, nor has another head begun.
abbrev pub has_rest : {S : Type 0} → Guest S → Bool
has_rest guest =
    nat_lt 0 guest.paid_until && not guest.can_read && not (is_some guest.number)
    && not (has_begun guest.browser.heading)

-- what is left to do for what came of it
abbrev pub work_of : {S : Type 0} → Guest S → Work
work_of guest = if is_answering guest then Answering else (if has_rest guest then Idle else Awaited)

-- a connection's place; its time counts from when it came, and of one that acted for a player from the last turn in
-- which it did
abbrev pub place_of : {S : Type 0} → Desk → Guest S → Place
place_of desk guest = record {
  address = guest.origin.address;
  role = role_of desk guest.is_lost guest.number;
  player = player_of desk guest.number;
  since = guest.since;
  work = work_of guest;
}

-- A connection goes where its place has nobody any more; nothing else changes.
pub record Yields {S : Type 0} (place : Place) (old new : Guest S) : Type 0 where
  pub before : IsAsBefore old new
  pub lost : new.is_lost ≡ (old.is_lost || is_gone place.role)
  pub work : work_of new ≡ work_of old
