-- A tournament report, FIDE's TRF-16: lines of fixed columns. Columns are counted in characters from 1 on.
use Rattle.std.specs.Prelude.{ℕ, zero, suc, ◌+◌, ◌-◌, ◌/◌, ◌%◌, ◌==◌, Bool, not, nat_lt, List, [], ◌∷◌, ◌++◌, length}
use Rattle.std.specs.Prelude.{replicate, codes, decimal, map, drop, flat_map, Option, None, Some, if◌then◌else◌}
use Rattle.std.specs.Prelude.{unwrap_or, slice_get}
use Rattle.std.specs.Option.{option_map}
use Rattle.night_report.specs.declared.cells.Cell.{Cell}
use Rattle.night_report.specs.declared.cells.Meeting.{Meeting}
use Rattle.night_report.specs.declared.columns.Tournament.{Tournament}
use Rattle.night_report.specs.declared.particulars.Particulars.{Particulars}
use Rattle.night_report.specs.declared.teams.Team.{Team}
use Rattle.night_report.specs.Cells.{cell_in}

abbrev pub space : ℕ
space = 32

-- a text at the right of so many columns
unfoldable pub at_right : ℕ → List ℕ → List ℕ
at_right width text = replicate (width - length text) space ++ text

-- a byte with which a character of UTF-8 begins
abbrev pub begins : ℕ → Bool
begins b = not (b / 64 == 2)

-- a text's first characters, as many as there is room for, and spaces in the room that is left
abbrev pub at_left : ℕ → List ℕ → List ℕ
at_left room [] = replicate room space
at_left zero (b ∷ bs) = if begins b then [] else b ∷ at_left zero bs
at_left (suc room) (b ∷ bs) = if begins b then b ∷ at_left room bs else b ∷ at_left (suc room) bs

-- no control character, which would spoil the lines
abbrev pub plain_byte : ℕ → ℕ
plain_byte b = if nat_lt b space then space else b

-- columns 1 to 3 and from 5 on
abbrev pub line_of : List ℕ → List ℕ → List ℕ
line_of id text = id ++ (codes " " ++ (map plain_byte text ++ codes "\n"))

-- points with one digit behind the point
unfoldable pub points_text : ℕ → List ℕ
points_text halves = decimal (halves / 2) ++ (codes "." ++ (if halves % 2 == 0 then codes "0" else codes "5"))

-- the opponent in four columns, 0000 without one
unfoldable pub opponent_text : ℕ → List ℕ
opponent_text n = if n == 0 then codes "0000" else at_right 4 (decimal n)

-- a round in ten columns: two spaces, the opponent, a space, the colour, a space, the result
unfoldable pub cell_text : Cell → List ℕ
cell_text cell =
    codes "  " ++ (opponent_text cell.opponent ++ (codes " " ++ (cell.colour ∷ (codes " " ++ (cell.sign ∷ [])))))

abbrev pub cells_text : ℕ → List (List Meeting) → List ℕ
cells_text n rounds = flat_map (λ round. cell_text (cell_in n round)) rounds

-- the half points of a player
abbrev pub halves_in : ℕ → List (List Meeting) → ℕ
halves_in n [] = 0
halves_in n (round ∷ rounds) = (cell_in n round).halves + halves_in n rounds

-- the rank of the player before whom so many stand, from 1 on: one more than how many have a place before; 0 where
-- none of 9,999 is known
abbrev pub rank_of : ℕ → ℕ
rank_of place = if nat_lt place 9_999 then place + 1 else 0

abbrev pub rank_at : List ℕ → ℕ → ℕ
rank_at places at = unwrap_or (option_map rank_of (slice_get places at)) 0

-- Columns 1 to 13 of a player's line: the number in 5 to 8, the sex in 10, the title in 11 to 13.
unfoldable pub number_text : ℕ → Particulars → List ℕ
number_text n p =
    codes "001 " ++ (at_right 4 (decimal n) ++ (codes " " ++ (at_left 1 (map plain_byte p.sex.now)
    ++ at_right 3 p.title.now)))

-- Columns 14 to 52: the name in 15 to 47, the rating in 49 to 52.
unfoldable pub name_text : Particulars → List ℕ
name_text p =
    codes " " ++ (at_left 33 (map plain_byte p.full_name.now) ++ (codes " " ++ at_right 4 p.rating.now))

-- Columns 53 to 79: the federation in 54 to 56, FIDE's number in 58 to 68, the date of birth in 70 to 79.
unfoldable pub known_text : Particulars → List ℕ
known_text p =
    codes " " ++ (at_left 3 (map plain_byte p.federation.now) ++ (codes " " ++ (at_right 11 p.fide_number.now
    ++ (codes " " ++ at_left 10 (map plain_byte p.born.now)))))

-- Columns 1 to 80.
unfoldable pub front_text : ℕ → Particulars → List ℕ
front_text n p = number_text n p ++ (name_text p ++ (known_text p ++ codes " "))

-- Columns 81 to 89, of the player before whom so many stand by the starting numbers: the points, and the rank.
unfoldable pub standing_text : List (List Meeting) → List ℕ → ℕ → List ℕ
standing_text rounds places at =
    at_right 4 (points_text (halves_in (at + 1) rounds)) ++ (codes " " ++ at_right 4 (decimal (rank_at places at)))

-- The line of that player: columns 92 to 99 have the first round, and so on.
unfoldable pub player_line : List (List Meeting) → List ℕ → ℕ → Particulars → List ℕ
player_line rounds places at p =
    front_text (at + 1) p ++ (standing_text rounds places at ++ (cells_text (at + 1) rounds ++ codes "\n"))

-- the lines of players, before the first of whom so many stand
abbrev pub players_text : List (List Meeting) → List ℕ → ℕ → List Particulars → List ℕ
players_text rounds places at [] = []
players_text rounds places at (p ∷ ps) = player_line rounds places at p ++ players_text rounds places (at + 1) ps

-- the starting numbers of a team's players, in columns 37 to 40, 42 to 45, and so on
abbrev pub members_text : List ℕ → List ℕ
members_text [] = []
members_text (n ∷ ns) = codes " " ++ (at_right 4 (decimal n) ++ members_text ns)

abbrev pub numbers_text : List ℕ → List ℕ
numbers_text [] = []
numbers_text (n ∷ ns) = at_right 4 (decimal n) ++ members_text ns

-- The line of a team, with its name in columns 5 to 36.
unfoldable pub team_line : Team → List ℕ
team_line t =
    codes "013 " ++ (at_left 32 (map plain_byte t.name.now) ++ (numbers_text t.numbers.items ++ codes "\n"))

abbrev pub teams_text : List Team → List ℕ
teams_text teams = flat_map team_line teams

-- a round's day, `YY/MM/DD`, in ten columns: two spaces, and the day without its century
abbrev pub day_text : List ℕ → List ℕ
day_text day = codes "  " ++ at_left 8 (map plain_byte (drop 2 day))

abbrev pub days_text : List (List ℕ) → List ℕ
days_text days = flat_map day_text days

-- The days of the rounds, where any is told: the first in columns 92 to 99, above its round, and so on.
unfoldable pub days_line : List (List ℕ) → List ℕ
days_line [] = []
days_line (day ∷ days) = codes "132" ++ (replicate 86 space ++ (days_text (day ∷ days) ++ codes "\n"))

-- how many rounds there are to be, as pairing programs ask
abbrev pub rounds_line : Option ℕ → List ℕ
rounds_line None = []
rounds_line (Some n) = line_of (codes "XXR") (decimal n)

-- what and where the tournament is, and when
unfoldable pub place_text : Tournament → List ℕ
place_text e =
    line_of (codes "012") e.name.now ++ (line_of (codes "022") e.city.now ++ (line_of (codes "032") e.federation.now
    ++ (line_of (codes "042") e.begins.now ++ line_of (codes "052") e.ends.now)))

-- how many of these players have a rating
abbrev pub has_rating : Particulars → Bool
has_rating p = not (length p.rating.now == 0)

abbrev pub rated_among : List Particulars → ℕ
rated_among [] = 0
rated_among (p ∷ ps) = (if has_rating p then 1 else 0) + rated_among ps

-- how many players there are, how many of them have a rating, and how many teams there are
unfoldable pub counts_text : List Particulars → ℕ → List ℕ
counts_text players teams =
    line_of (codes "062") (decimal (length players)) ++ (line_of (codes "072") (decimal (rated_among players))
    ++ line_of (codes "082") (decimal teams))

-- of which kind it is, who directs it, and the times
unfoldable pub kind_text : Tournament → List ℕ
kind_text e =
    line_of (codes "092") e.kind.now ++ (line_of (codes "102") e.arbiter.now ++ (line_of (codes "112") e.deputy.now
    ++ line_of (codes "122") e.times.now))

unfoldable pub tournament_text : Tournament → List (List ℕ) → List Particulars → ℕ → List ℕ
tournament_text e days players teams =
    place_text e ++ (counts_text players teams ++ (kind_text e ++ (days_line days ++ rounds_line e.rounds)))

-- the report of these players, who are numbered from 1 on in their order, of their places, and of their teams
unfoldable pub report_text :
    Tournament → List (List ℕ) → List Particulars → (places : List ℕ) → List Team → List (List Meeting) → List ℕ
report_text e days players places teams rounds =
    tournament_text e days players (length teams) ++ (players_text rounds places 0 players ++ teams_text teams)
