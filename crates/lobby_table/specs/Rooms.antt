-- Who of a game's players is there, how many watch it, and since when a player is away.
use Rattle.std.specs.Prelude.{ℕ, ◌≡◌, ◌-◌, ◌/◌, ◌==◌, Bool, true, false, List, [], ◌∷◌, ◌++◌, length, codes, decimal}
use Rattle.std.specs.Prelude.{map, filter, find, not, ◌&&◌, Option, None, Some, if◌then◌else◌}
use Rattle.std.specs.List.{flat_map, list_any}
use Rattle.std.specs.Str.{bytes_eq}
use Rattle.lobby_words.specs.declared.listing.Seat.{Seat}
use Rattle.lobby_words.specs.declared.planning.Identity.{Identity}
use Rattle.lobby_words.specs.Players.{is_named, is_present}
use Rattle.lobby_table.specs.declared.rooms.Attendance.{Attendance}
use Rattle.lobby_table.specs.declared.rooms.Left.{Left}
use Rattle.lobby_table.specs.declared.rooms.Left.TheVariants as lefts
use Rattle.lobby_table.specs.declared.watching.Watch.{Watch}
use Rattle.lobby_table.specs.Watching.{at_table}

abbrev pub is_of : List ℕ → Attendance → Bool
is_of name a = bytes_eq a.name name

abbrev pub is_met : List ℕ → List Attendance → Bool
is_met name all = list_any (is_of name) all

-- A player is known from the moment on at which a connection acts for him.
abbrev pub met : Option Identity → List Attendance → List Attendance
met None all = all
met (Some who) all =
    if is_met who.name all then all else all ++ record { name = who.name; left = lefts.Never } ∷ []

-- A connection that acted for one player acts for another from now on, or for nobody: the one is left by it.
abbrev pub left_if : Option Identity → Option Identity → Attendance → Attendance
left_if before after a =
    if is_named before a.name && not (is_named after a.name)
    then record { name = a.name; left = lefts.Lately } else a

abbrev pub left_by : Option Identity → Option Identity → List Attendance → List Attendance
left_by before after all = map (left_if before after) all

-- the same of these connections, and of all that are open
abbrev pub left_by_each : (ℕ → Option Identity) → (ℕ → Option Identity) → List ℕ → List Attendance → List Attendance
left_by_each before after [] all = all
left_by_each before after (c ∷ connections) all =
    left_by_each before after connections (left_by (before c) (after c) all)

abbrev pub AreLeft : (ℕ → Bool) → (ℕ → Option Identity) → (ℕ → Option Identity) → List Attendance → List Attendance
    → Type 0
AreLeft is_open before after old new =
    (connections : List ℕ) × ((c : ℕ) → at_table connections c ≡ is_open c)
    × (new ≡ left_by_each before after connections old)

-- He counts as left from the next message on that somebody says, or from the very one that makes it so: this is the
-- moment of one.
abbrev pub dated : ℕ → Left → Left
dated at lefts.Lately = lefts.At at
dated at lefts.Never = lefts.Never
dated at (lefts.At since) = lefts.At since

abbrev pub dated_of : ℕ → Attendance → Attendance
dated_of at a = record { name = a.name; left = dated at a.left }

-- what is known behind a message at this moment of a connection that acted so before, and acts so behind it
abbrev pub attended : Option Identity → Option Identity → ℕ → List Attendance → List Attendance
attended before after at all = map (dated_of at) (met after (left_by before after all))

-- what is known of the last connection by which a player was left
abbrev pub left_at : Option Attendance → Left
left_at None = lefts.Never
left_at (Some a) = a.left

abbrev pub attendance_of : List ℕ → List Attendance → Option Attendance
attendance_of name all = find (is_of name) all

abbrev pub left_of : List ℕ → List Attendance → Left
left_of name all = left_at (attendance_of name all)

-- Whether a player is there; and where he is not, for how many seconds.
abbrev pub away_text : Left → ℕ → List ℕ
away_text lefts.Never at = codes " away -\n"
away_text lefts.Lately at = codes " away 0\n"
away_text (lefts.At since) at = codes " away " ++ decimal ((at - since) / 1000) ++ codes "\n"

abbrev pub presence_text : Bool → Left → ℕ → List ℕ
presence_text true left at = codes " here\n"
presence_text false left at = away_text left at

-- what such an answer rests on: who has a seat in which game, who watches which, who was there when, which connections
-- are open, and for whom each acts
pub record Gathering : Type 0 where
  pub seats : List Seat
  pub watches : List Watch
  pub attendances : List Attendance
  pub is_open : ℕ → Bool
  pub acts_for : ℕ → Option Identity

-- how many connections watch a game
abbrev pub watching : ℕ → List Watch → ℕ
watching game watches = length (filter (λ (w : Watch). w.game == game) watches)

abbrev pub room_head : ℕ → ℕ → List ℕ
room_head game count = codes "ok room " ++ decimal game ++ codes " " ++ decimal count ++ codes "\n"

-- The row of a seat, in this game: a player is there just where a connection acts for him that is open.
abbrev pub seat_row : (ℕ → Option Identity) → List ℕ → List Attendance → ℕ → ℕ → Seat → List ℕ
seat_row acts_for all attendances game at s =
    if s.game == game then s.by ++ presence_text (is_present acts_for all s.by) (left_of s.by attendances) at else []

-- The answer to `room G` tells how many connections watch game G, and of each player who has a seat there, as far as is
-- known, whether he is there.
abbrev pub IsRoom : Gathering → ℕ → ℕ → List ℕ → Type 0
IsRoom g game at text =
    (all : List ℕ) × ((c : ℕ) → at_table all c ≡ g.is_open c)
    × (text ≡ room_head game (watching game g.watches)
    ++ flat_map (seat_row g.acts_for all g.attendances game at) g.seats)
