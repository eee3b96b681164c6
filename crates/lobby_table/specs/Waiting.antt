-- The seats of players in the games on the server's table, as far as its answers have told, and who may open or join
-- one more.
use Rattle.std.specs.Prelude.{ℕ, Bool, true, false, ◌&&◌, ◌||◌, ◌==◌, ◌+◌, ◌-◌, ◌*◌, ◌/◌, not, nat_le, List, [], ◌∷◌}
use Rattle.std.specs.Prelude.{◌++◌, length, map, filter, Option, None, Some, if◌then◌else◌}
use Rattle.std.specs.List.{count_by}
use Rattle.std.specs.Str.{bytes_eq}
use Rattle.lobby_words.specs.declared.listing.Seat.{Seat}
use Rattle.lobby_words.specs.declared.listing.Stage.{Stage}
use Rattle.lobby_words.specs.declared.listing.Stage.TheVariants as stages
use Rattle.lobby_words.specs.Waiting.{opens_game, joins_game, ends_wait, is_list, seats_in, seat_of, is_stage}
use Rattle.lobby_words.specs.Words.{as_name, black_name, actor, is_pair}
use Rattle.lobby_table.specs.Owed.{Owed, Asker, Pairer, ForAct}

-- one more, if there is one; none in this game any more
abbrev pub behind : List Seat → Option Seat → List Seat
behind seats None = seats
behind seats (Some one) = seats ++ one ∷ []

abbrev pub gone : ℕ → List Seat → List Seat
gone game seats = filter (λ (s : Seat). not (s.game == game)) seats

-- who has the first seat in a game
abbrev pub first_by : ℕ → List Seat → Option (List ℕ)
first_by game [] = None
first_by game (s ∷ seats) = if s.game == game then Some s.by else first_by game seats

-- A game goes on, once a second player has joined who waited there.
abbrev pub still_by : ℕ → Option (List ℕ) → Option Seat
still_by game None = None
still_by game (Some by) = Some (record { game = game; by = by; stage = stages.Plays })

abbrev pub seats_joined : ℕ → List ℕ → List Seat → List Seat
seats_joined game by seats =
    behind (behind (gone game seats) (still_by game (first_by game seats))) (seat_of (Some game) by stages.Plays)

-- A game is over from now on, and stays on the table.
abbrev pub over_if : ℕ → Seat → Seat
over_if game s = if s.game == game then record { game = s.game; by = s.by; stage = stages.Over } else s

-- The seats behind an act of this player in a game: one more, where it was opened, for him or for who is named; both
-- where it was joined, of a pairing by Black; none where it was dropped; and else it may be over then.
abbrev pub seats_ended : Bool → ℕ → List Seat → List Seat
seats_ended is_over game seats = if is_over then map (over_if game) seats else seats

abbrev pub seats_acted : List ℕ → List ℕ → Bool → ℕ → List Seat → List Seat
seats_acted by text is_over game seats =
    if opens_game text then behind seats (seat_of (Some game) (actor by text) stages.Waits)
    else (if joins_game text then seats_joined game (actor by text) seats
    else (if is_pair text then seats_joined game (black_name text) seats
    else (if ends_wait text then gone game seats else seats_ended is_over game seats)))

-- the seats behind an act of this player, which was done in a game or not
abbrev pub seats_told : List ℕ → List ℕ → Bool → Option ℕ → List Seat → List Seat
seats_told by text is_over None seats = seats
seats_told by text is_over (Some game) seats = seats_acted by text is_over game seats

-- the seats where a pairing has opened a game for White
abbrev pub seats_opened : List ℕ → Option ℕ → List Seat → List Seat
seats_opened text game seats = behind seats (seat_of game (as_name text) stages.Waits)

-- the answer to `list` tells all of them
abbrev pub seats_listed : List ℕ → List Seat → List Seat
seats_listed answer seats = if is_list answer then seats_in answer else seats

-- whether it is a seat of this player in a game that stands so
abbrev pub is_seat : Stage → List ℕ → Seat → Bool
is_seat stage name s = is_stage s.stage stage && bytes_eq s.by name

-- Whether an answer is owed to an act for this player by which one more of his games stands so: to an `open`, by which
-- one waits, or to a `join`, by which one goes on. A pairing has one of White's wait until Black has joined it, and one
-- more of both goes on then: so it counts for both from its opening until the join is answered.
abbrev pub enters : Stage → List ℕ → Bool
enters stages.Waits text = opens_game text
enters stages.Plays text = joins_game text
enters stages.Over text = false

abbrev pub enters_by : Stage → List ℕ → List ℕ → List ℕ → Bool
enters_by stage name by text = bytes_eq (actor by text) name && enters stage text

abbrev pub plays_by : Stage → List ℕ → List ℕ → Bool
plays_by stage name text =
    is_stage stage stages.Plays && (bytes_eq (as_name text) name || bytes_eq (black_name text) name)

abbrev pub pairs_by : Stage → List ℕ → List ℕ → Bool
pairs_by stage name text = is_stage stage stages.Waits && bytes_eq (as_name text) name || plays_by stage name text

abbrev pub is_entry : Stage → List ℕ → Owed → Bool
is_entry stage name (Asker c (ForAct by text)) =
    enters_by stage name by text || is_pair text && plays_by stage name text
is_entry stage name (Pairer c by black text) = pairs_by stage name text
is_entry stage name _ = false

-- Whether a player has so many such seats; those count of which the answer is owed. So many games of a player wait at
-- most, go on, and are over and still on the table, as the limits say.
abbrev pub has_many : ℕ → Stage → List Seat → List Owed → List ℕ → Bool
has_many most stage seats owed name =
    nat_le most (count_by (is_seat stage name) seats + count_by (is_entry stage name) owed)

-- Games take places of the table: that of a game which waits is its one seat's, and that of any other half each of its
-- two seats'. So many halves are taken, by these seats; and those count by which a game is opened of which the answer
-- is owed.
abbrev pub is_waiting : Seat → Bool
is_waiting s = is_stage s.stage stages.Waits

abbrev pub is_opening : Owed → Bool
is_opening (Asker c (ForAct by text)) = opens_game text
is_opening (Pairer c by black text) = true
is_opening _ = false

abbrev pub halves_taken : List Seat → List Owed → ℕ
halves_taken seats owed = length seats + (count_by is_waiting seats + 2 * count_by is_opening owed)

-- Whether the table has places left for arbiters and pairings alone: where it is known how many it has, these are an
-- eighth of them.
abbrev pub is_full_at : Option ℕ → List Seat → List Owed → Bool
is_full_at None seats owed = false
is_full_at (Some places) seats owed = nat_le (2 * (places - places / 8)) (halves_taken seats owed)
