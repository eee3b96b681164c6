-- Points and tie-breaks of players, as FIDE's Handbook has them: C.07, Tie-Break Regulations, in force from 1 August
-- 2024. A player's tournament is a list of rounds, and what they are worth is counted in half points. It is a Swiss, or
-- one in which each meets each (a round robin).
use Rattle.std.specs.Prelude.{ℕ, zero, suc, ◌+◌, ◌-◌, ◌*◌, ◌==◌, ◌&&◌, ◌||◌, not, Bool, nat_lt, List, [], ◌∷◌, ◌++◌}
use Rattle.std.specs.Prelude.{map, filter, sum_by, count_by, get_or, Option, None, Some, unwrap_or, if◌then◌else◌}
use Rattle.std.specs.Prelude.{true, false}
use Rattle.std.specs.List.{list_all, list_any}
use Rattle.night_report.specs.declared.cells.Cell.{Cell}
use Rattle.night_report.specs.declared.cells.Meeting.{Meeting}
use Rattle.night_standings.specs.declared.breaks.Criterion.{Criterion}
use Rattle.night_standings.specs.declared.breaks.Criterion.TheVariants as criteria
use Rattle.night_standings.specs.declared.breaks.System.{System}
use Rattle.night_standings.specs.declared.breaks.System.TheVariants as systems
use Rattle.night_report.specs.declared.cells.Play.{Play}
use Rattle.night_report.specs.declared.cells.Play.TheVariants as plays
use Rattle.night_report.specs.Cells.{cell_in}

abbrev pub is_swiss : System → Bool
is_swiss systems.Swiss = true
is_swiss systems.RoundRobin = false

-- What counts as a game over the board: in a round robin a forfeit does (article 15).
abbrev pub play_in : System → Play → Play
play_in s plays.Board = plays.Board
play_in s plays.Short = plays.Short
play_in s plays.Forfeit = if is_swiss s then plays.Forfeit else plays.Board

abbrev pub meeting_in : System → Meeting → Meeting
meeting_in s m = record m { play = play_in s m.play }

-- the rounds as tie-breaks see them
abbrev pub rounds_in : System → List (List Meeting) → List (List Meeting)
rounds_in s rounds = map (λ round. map (meeting_in s) round) rounds

-- the rounds of the player of this number
abbrev pub rounds_of : ℕ → List (List Meeting) → List Cell
rounds_of n rounds = map (λ round. cell_in n round) rounds

-- a round that was played: there is an opponent, and it is no forfeit; of teams, nor a match of forfeits alone
abbrev pub is_played : Cell → Bool
is_played c = not (c.opponent == 0) && not c.is_forfeit

-- a bye for half a point or for none, `H` or `Z`, as of who is away
abbrev pub is_asked_for : Cell → Bool
is_asked_for c = c.sign == 72 || c.sign == 90

-- a round that the player chose not to play (article 16, "voluntary unplayed round"): such a bye, or a loss by a
-- forfeit
abbrev pub is_voluntary : Cell → Bool
is_voluntary c = is_asked_for c || c.sign == 45

-- a player's points
abbrev pub points : List Cell → ℕ
points cells = sum_by (λ c. c.halves) cells

-- what a round counts for the player's opponents: what it was worth; but in a Swiss a bye that was asked for counts as
-- a draw where the player was there for no round behind it (16.3)
abbrev pub counted : System → Cell → List Cell → ℕ
counted s c later = if is_swiss s && is_asked_for c && list_all is_voluntary later then 1 else c.halves

-- a player's points as they count for the opponents
abbrev pub adjusted : System → List Cell → ℕ
adjusted s [] = 0
adjusted s (c ∷ later) = counted s c later + adjusted s later

-- these of so many players, in the order of their numbers
abbrev pub all_adjusted : System → List (List Meeting) → ℕ → List ℕ
all_adjusted s rounds zero = []
all_adjusted s rounds (suc count) = all_adjusted s rounds count ++ (adjusted s (rounds_of (suc count) rounds) ∷ [])

-- those of the player of this number
abbrev pub of_number : List ℕ → ℕ → ℕ
of_number scores n = if n == 0 then 0 else get_or scores (n - 1) 0

-- what a round adds to the tie-breaks by opponents: the opponent's points, or, where it was not played, those of an
-- opponent who has as many as the player (the "dummy opponent")
abbrev pub contribution : List ℕ → ℕ → Cell → ℕ
contribution scores own c = if is_played c then of_number scores c.opponent else own

-- Buchholz: the sum of these over all rounds
abbrev pub buchholz : List ℕ → List Cell → ℕ
buchholz scores cells = sum_by (contribution scores (points cells)) cells

-- the lesser of what was found and a number; the least of some, where there are any
abbrev pub lesser : Option ℕ → ℕ → ℕ
lesser None x = x
lesser (Some least) x = if nat_lt x least then x else least

abbrev pub least_from : Option ℕ → List ℕ → Option ℕ
least_from found [] = found
least_from found (x ∷ xs) = least_from (Some (lesser found x)) xs

-- Cut 1 leaves out the least of what the rounds add; of who chose not to play rounds, the least of what those add.
abbrev pub may_be_cut : Bool → Cell → Bool
may_be_cut has_voluntary c = not has_voluntary || is_voluntary c

abbrev pub cut_among : List ℕ → ℕ → Bool → List Cell → Option ℕ
cut_among scores own has_voluntary cells =
    least_from None (map (contribution scores own) (filter (may_be_cut has_voluntary) cells))

abbrev pub cut : List ℕ → List Cell → ℕ
cut scores cells = unwrap_or (cut_among scores (points cells) (list_any is_voluntary cells) cells) 0

abbrev pub buchholz_cut : List ℕ → List Cell → ℕ
buchholz_cut scores cells = buchholz scores cells - cut scores cells

-- Sonneborn-Berger, in quarters of a point: the sum over all rounds of what each adds times what it was worth
abbrev pub worth : List ℕ → ℕ → Cell → ℕ
worth scores own c = c.halves * contribution scores own c

abbrev pub sonneborn_berger : List ℕ → List Cell → ℕ
sonneborn_berger scores cells = sum_by (worth scores (points cells)) cells

-- wins: rounds that were worth as much as a win, with or without a game
abbrev pub wins : List Cell → ℕ
wins cells = count_by (λ c. c.halves == 2) cells

-- what a player has by a tie-break, by the opponents' points; the direct encounter has none alone, nor have the points
-- of a team's boards by its matches
abbrev pub value_of : Criterion → List ℕ → List Cell → ℕ
value_of criteria.BoardPoints scores cells = 0
value_of criteria.Direct scores cells = 0
value_of criteria.BuchholzCut scores cells = buchholz_cut scores cells
value_of criteria.Buchholz scores cells = buchholz scores cells
value_of criteria.SonnebornBerger scores cells = sonneborn_berger scores cells
value_of criteria.Wins scores cells = wins cells

-- The rounds of a player that have a part in that: in a round robin those with an opponent, so that no round there is
-- unplayed, and none is left out by will (16.4, 16.5); but wins count each, with or without a game (7.1).
abbrev pub has_part : System → Criterion → Cell → Bool
has_part s criteria.Wins c = true
has_part s _ c = is_swiss s || not (c.opponent == 0)

abbrev pub with_part : System → Criterion → List Cell → List Cell
with_part s k cells = filter (has_part s k) cells

-- what each of so many players has
abbrev pub all_values : System → Criterion → List ℕ → List (List Meeting) → ℕ → List ℕ
all_values s k scores rounds zero = []
all_values s k scores rounds (suc count) =
    all_values s k scores rounds count ++ (value_of k scores (with_part s k (rounds_of (suc count) rounds)) ∷ [])

abbrev pub all_points : List (List Meeting) → ℕ → List ℕ
all_points rounds zero = []
all_points rounds (suc count) = all_points rounds count ++ (points (rounds_of (suc count) rounds) ∷ [])
