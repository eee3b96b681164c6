-- Places of players by points, and among those who are tied by one tie-break after another: FIDE's Handbook, C.07.
use Rattle.std.specs.Prelude.{ℕ, zero, suc, ◌+◌, ◌-◌, ◌*◌, ◌==◌, ◌&&◌, ◌||◌, not, Bool, true, false, nat_lt}
use Rattle.std.specs.Prelude.{List, [], ◌∷◌, ◌++◌, map, sum_by, count_by, get_or, slice_get, Option, None, Some}
use Rattle.std.specs.Prelude.{if◌then◌else◌}
use Rattle.std.specs.List.{list_all, list_any}
use Rattle.night_report.specs.declared.cells.Cell.{Cell}
use Rattle.night_report.specs.declared.cells.Meeting.{Meeting}
use Rattle.night_standings.specs.declared.breaks.Criterion.{Criterion}
use Rattle.night_standings.specs.declared.breaks.Criterion.TheVariants as criteria
use Rattle.night_standings.specs.declared.places.Rank.{Rank}
use Rattle.night_standings.specs.declared.direct.Tied.{Tied}
use Rattle.night_standings.specs.declared.breaks.System.{System}
use Rattle.night_standings.specs.Breaks.{rounds_in, rounds_of, is_played, all_values, all_points, all_adjusted}

-- A place is how many players are before. Who is before: who was so by what was looked at before; and of those who are
-- tied by that, who has more.
abbrev pub is_before : Rank → Rank → Bool
is_before r other = nat_lt other.place r.place || (other.place == r.place && nat_lt r.value other.value)

abbrev pub place_in : List Rank → Rank → ℕ
place_in ranks r = count_by (is_before r) ranks

abbrev pub places_in : List Rank → List ℕ
places_in ranks = map (place_in ranks) ranks

-- so many players with their places and what each has
abbrev pub ranks_of : List ℕ → List ℕ → ℕ → List Rank
ranks_of places values zero = []
ranks_of places values (suc n) =
    ranks_of places values n ++ (record { place = get_or places n 0; value = get_or values n 0 } ∷ [])

-- The direct encounter (article 6): among those who are tied, the games that they played against each other and that
-- are over.
abbrev pub is_encounter : Cell → Bool
is_encounter c = is_played c && not (c.sign == 32)

-- whether the player of this number has this place
abbrev pub is_place : ℕ → Option ℕ → Bool
is_place place None = false
is_place place (Some p) = p == place

abbrev pub has_place : List ℕ → ℕ → ℕ → Bool
has_place places place n = if n == 0 then false else is_place place (slice_get places (n - 1))

-- a player's points in these games
abbrev pub won_in : List ℕ → ℕ → Cell → ℕ
won_in places place c = if is_encounter c && has_place places place c.opponent then c.halves else 0

abbrev pub won : List ℕ → ℕ → List Cell → ℕ
won places place cells = sum_by (won_in places place) cells

abbrev pub is_met_in : ℕ → Cell → Bool
is_met_in n c = is_encounter c && c.opponent == n

abbrev pub has_met : ℕ → List Cell → Bool
has_met n cells = list_any (is_met_in n) cells

-- how many of the first so many players are tied with the player of this number and have not met that player
abbrev pub lacks : ℕ → List Cell → ℕ → Bool → Bool
lacks n cells other is_tied = is_tied && not (other == n) && not (has_met other cells)

abbrev pub missing : ℕ → List Cell → List ℕ → ℕ → ℕ → ℕ
missing n cells places place zero = 0
missing n cells places place (suc k) =
    missing n cells places place k + (if lacks n cells (suc k) (has_place places place (suc k)) then 1 else 0)

-- how a player stands among those who are tied: the place, the half points against them, and how many are not met
abbrev pub tied_of : List (List Meeting) → List ℕ → ℕ → ℕ → Tied
tied_of rounds places count n =
    record {
      number = n;
      place = get_or places (n - 1) 0;
      won = won places (get_or places (n - 1) 0) (rounds_of n rounds);
      missing = missing n (rounds_of n rounds) places (get_or places (n - 1) 0) count;
    }

abbrev pub all_tied : List (List Meeting) → List ℕ → ℕ → ℕ → List Tied
all_tied rounds places count zero = []
all_tied rounds places count (suc n) =
    all_tied rounds places count n ++ (tied_of rounds places count (suc n) ∷ [])

-- the most that a player may still have, were all games won that are missing
abbrev pub most : Tied → ℕ
most t = t.won + 2 * t.missing

-- whether all who are tied with a player have met each other
abbrev pub is_met_by_all : Tied → Tied → Bool
is_met_by_all t other = not (other.place == t.place) || other.missing == 0

abbrev pub is_complete : List Tied → Tied → Bool
is_complete all t = list_all (is_met_by_all t) all

-- whether a player stays before each of those who are tied and have not more, whatever the missing games bring
abbrev pub stays_before : Tied → Tied → Bool
stays_before t other =
    other.number == t.number || not (other.place == t.place) || nat_lt t.won other.won || nat_lt (most other) t.won

abbrev pub is_sure : List Tied → Tied → Bool
is_sure all t = list_all (stays_before t) all

-- whether so does each who has as many as a player, or more: then that player's rank is sure
abbrev pub leaves_sure : List Tied → Tied → Tied → Bool
leaves_sure all t other = not (other.place == t.place) || nat_lt other.won t.won || is_sure all other

abbrev pub is_ranked : List Tied → Tied → Bool
is_ranked all t = list_all (leaves_sure all t) all

-- Where all have met each other, the points against each other count; else the first rank is given to who has it
-- whatever the missing games bring, then so the second, and so on, and the others stay tied.
abbrev pub direct_value : List Tied → Tied → ℕ
direct_value all t =
    if is_complete all t then t.won else (if is_ranked all t then t.won + 1 else 0)

abbrev pub direct_rank : List Tied → Tied → Rank
direct_rank all t = record { place = t.place; value = direct_value all t }

abbrev pub direct_ranks : List Tied → List Rank
direct_ranks all = map (direct_rank all) all

abbrev pub once : List (List Meeting) → ℕ → List ℕ → List ℕ
once rounds count places = places_in (direct_ranks (all_tied rounds places count count))

-- Among those who are tied still, fewer than before, it is looked at anew: as often as there are players at the most.
abbrev pub settled : List (List Meeting) → ℕ → ℕ → List ℕ → List ℕ
settled rounds count zero places = places
settled rounds count (suc times) places = once rounds count (settled rounds count times places)

-- what each player has against those with whom there is a tie
abbrev pub all_won : List (List Meeting) → List ℕ → ℕ → List ℕ
all_won rounds places count = map (λ t. t.won) (all_tied rounds places count count)

abbrev pub is_direct : Criterion → Bool
is_direct criteria.BoardPoints = false
is_direct criteria.Direct = true
is_direct criteria.BuchholzCut = false
is_direct criteria.Buchholz = false
is_direct criteria.SonnebornBerger = false
is_direct criteria.Wins = false

abbrev pub is_of_boards : Criterion → Bool
is_of_boards criteria.BoardPoints = true
is_of_boards criteria.Direct = false
is_of_boards criteria.BuchholzCut = false
is_of_boards criteria.Buchholz = false
is_of_boards criteria.SonnebornBerger = false
is_of_boards criteria.Wins = false

-- what players have by a tie-break, and their places by it; of teams the points of their boards are given
abbrev pub values_by : System → Criterion → List (List Meeting) → List ℕ → List ℕ → ℕ → List ℕ → List ℕ
values_by s k rounds scores boards count places =
    if is_direct k then all_won rounds places count
    else (if is_of_boards k then boards else all_values s k scores rounds count)

abbrev pub places_by : Criterion → List (List Meeting) → (values : List ℕ) → ℕ → List ℕ → List ℕ
places_by k rounds values count places =
    if is_direct k then settled rounds count count places else places_in (ranks_of places values count)

-- both of these
abbrev pub places_next : System → Criterion → List (List Meeting) → List ℕ → List ℕ → ℕ → List ℕ → List ℕ
places_next s k rounds scores boards count places =
    places_by k rounds (values_by s k rounds scores boards count places) count places

-- the places by one tie-break after another, and what players have by each
abbrev pub places_behind : System → List Criterion → List (List Meeting) → List ℕ → List ℕ → ℕ → List ℕ → List ℕ
places_behind s [] rounds scores boards count places = places
places_behind s (k ∷ ks) rounds scores boards count places =
    places_behind s ks rounds scores boards count (places_next s k rounds scores boards count places)

abbrev pub columns_behind :
    System → List Criterion → List (List Meeting) → List ℕ → List ℕ → ℕ → List ℕ → List (List ℕ)
columns_behind s [] rounds scores boards count places = []
columns_behind s (k ∷ ks) rounds scores boards count places =
    values_by s k rounds scores boards count places
    ∷ columns_behind s ks rounds scores boards count (places_next s k rounds scores boards count places)

-- the places by points alone: before these none is before another
abbrev pub places_by_points : List (List Meeting) → ℕ → List ℕ
places_by_points rounds count = places_in (ranks_of [] (all_points rounds count) count)

-- the places of so many players, or teams, by points and by these tie-breaks; and what they have by each
abbrev pub places_of : System → List Criterion → List (List Meeting) → List ℕ → ℕ → List ℕ
places_of s ks rounds boards count =
    places_behind s ks (rounds_in s rounds) (all_adjusted s rounds count) boards count (places_by_points rounds count)

abbrev pub columns_of : System → List Criterion → List (List Meeting) → List ℕ → ℕ → List (List ℕ)
columns_of s ks rounds boards count =
    columns_behind s ks (rounds_in s rounds) (all_adjusted s rounds count) boards count (places_by_points rounds count)
