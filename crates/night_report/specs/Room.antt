-- Whether the columns of a report have room for what stands there, and why a report is not made.
use Rattle.std.specs.Prelude.{ℕ, ◌≡◌, ◌≤◌, ◌<◌, ◌⊎◌, ◌&&◌, Bool, true, false, nat_le, List, length, Option, unwrap_or}
use Rattle.std.specs.List.{list_all}
use Rattle.std.specs.Global.{Vec}
use Rattle.night_report.specs.declared.cells.Meeting.{Meeting}
use Rattle.night_report.specs.declared.cells.Opponent.{Opponent}
use Rattle.night_report.specs.declared.cells.Opponent.TheVariants as opponents
use Rattle.night_report.specs.declared.columns.Fault.{Fault}
use Rattle.night_report.specs.declared.columns.Fault.TheVariants as faults
use Rattle.night_report.specs.declared.columns.Tournament.{Tournament}
use Rattle.night_report.specs.declared.particulars.Particulars.{Particulars}
use Rattle.night_report.specs.declared.teams.Team.{Team}

-- a text of bytes from 32 to 126, one column each
abbrev pub is_shown : ℕ → Bool
is_shown b = nat_le 32 b && nat_le b 126

abbrev pub has_width : ℕ → List ℕ → Bool
has_width width text = nat_le (length text) width && list_all is_shown text

-- what of a player stands at the right of its columns
abbrev pub fits : Particulars → Bool
fits p = has_width 3 p.title.now && has_width 4 p.rating.now && has_width 11 p.fide_number.now

-- the starting numbers of so many players
abbrev pub is_number : ℕ → ℕ → Bool
is_number count n = nat_le 1 n && nat_le n count

abbrev pub is_opponent : ℕ → Opponent → Bool
is_opponent count (opponents.Bye bye) = true
is_opponent count (opponents.Player n) = is_number count n

abbrev pub is_seated : ℕ → Meeting → Bool
is_seated count m = is_number count m.white && is_opponent count m.black

abbrev pub are_seated : ℕ → List (Vec Meeting) → Bool
are_seated count rounds = list_all (λ round. list_all (is_seated count) round.items) rounds

abbrev pub are_members : ℕ → List Team → Bool
are_members count teams = list_all (λ team. list_all (is_number count) team.numbers.items) teams

-- how many rounds there are to be: as many as is told, or else those that are there
abbrev pub all_rounds : Tournament → ℕ → ℕ
all_rounds e rounds = unwrap_or e.rounds rounds

-- The columns have room for players and rounds, starting numbers having four digits; for each text of a player that
-- stands at the right of its columns; no more rounds or days of rounds are told than there are to be; and each number
-- is a player's.
pub record HasRoom (e : Tournament) (days : ℕ) (players : List Particulars) (teams : List Team)
    (rounds : List (Vec Meeting)) : Type 0 where
  pub numbers : length players ≤ 9999
  pub columns : all_rounds e (length rounds) ≤ 99
  pub told : length rounds ≤ all_rounds e (length rounds)
  pub dated : days ≤ all_rounds e (length rounds)
  pub texts : list_all fits players ≡ true
  pub seats : are_seated (length players) rounds ≡ true
  pub members : are_members (length players) teams ≡ true

-- the fault of what has no room, the first that there is
abbrev pub IsFault : Tournament → ℕ → List Particulars → List Team → List (Vec Meeting) → Fault → Type 0
IsFault e days players teams rounds faults.TooManyPlayers = 9999 < length players
IsFault e days players teams rounds faults.TooManyRounds = 99 < all_rounds e (length rounds)
IsFault e days players teams rounds faults.TooFewRounds =
    (all_rounds e (length rounds) < length rounds) ⊎ (all_rounds e (length rounds) < days)
IsFault e days players teams rounds faults.TooWide = list_all fits players ≡ false
IsFault e days players teams rounds faults.NoPlayer =
    (are_seated (length players) rounds ≡ false) ⊎ (are_members (length players) teams ≡ false)
IsFault e days players teams rounds faults.NoMemory = Unit {0}
