-- Who is here, by all that are connected.
use Rattle.std.specs.Prelude.{ℕ, List, is_some}
use Rattle.std.specs.List.{filter_map}
use Rattle.lobby_desk.specs.declared.desk.Desk.{Desk}
use Rattle.lobby_guests.specs.declared.guest.Guest.{Guest}
use Rattle.lobby_guests.specs.Place.{place_of}
use Rattle.lobby_talk.specs.Roll.{Here}
use Rattle.lobby_loop.specs.declared.hall.Hall.{Hall}

-- the players for whom connections act, in the order of the connections
abbrev pub names_in : {S : Type 0} → Desk → List (Guest S) → List (List ℕ)
names_in desk guests = filter_map (λ guest. (place_of desk guest).player) guests

abbrev pub here_in : {S : Type 0} → Hall S → Here
here_in hall = record { server = is_some hall.server; names = names_in hall.talk.desk hall.guests.items }
