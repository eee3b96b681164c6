-- Matches of teams. Teams are numbered from 1 on, and 0 is none; `sides` has the team of each player, by the starting
-- numbers. A match is the boards of a round at which players of two teams meet, and its result is theirs, and that of
-- the byes that players of these teams have: against them nobody was there. Boards stand in the order of their numbers.
use Rattle.std.specs.Prelude.{ℕ, zero, suc, ◌+◌, ◌-◌, ◌==◌, ◌&&◌, ◌||◌, not, Bool, true, false, nat_lt, nat_le}
use Rattle.std.specs.Prelude.{List, [], ◌∷◌, ◌++◌, length, map, sum_by, get_or, Option, None, Some, if◌then◌else◌}
use Rattle.std.specs.List.{list_all, list_any}
use Rattle.std.specs.Option.{option_to_list}
use Rattle.std.specs.Global.{Vec}
use Rattle.night_report.specs.declared.cells.Meeting.{Meeting}
use Rattle.night_report.specs.declared.cells.Opponent.{Opponent}
use Rattle.night_report.specs.declared.cells.Opponent.TheVariants as opponents
use Rattle.night_report.specs.declared.cells.Play.TheVariants as plays
use Rattle.night_report.specs.declared.cells.Score.{Score}
use Rattle.night_report.specs.declared.cells.Score.TheVariants as scores
use Rattle.night_report.specs.declared.teams.Team.{Team}
use Rattle.night_report.specs.Cells.{white_cell, black_cell, is_forfeit}

-- the number of the first of these teams, numbered from this on, that has a player
abbrev pub has_member : ℕ → Team → Bool
has_member n team = list_any (λ member. member == n) team.numbers.items

abbrev pub team_from : ℕ → List Team → ℕ → ℕ
team_from number [] n = 0
team_from number (t ∷ ts) n = if has_member n t then number else team_from (number + 1) ts n

-- the teams of so many players
abbrev pub sides_of : List Team → ℕ → List ℕ
sides_of teams zero = []
sides_of teams (suc count) = sides_of teams count ++ (team_from 1 teams (suc count) ∷ [])

-- the team of the player of this number
abbrev pub side : List ℕ → ℕ → ℕ
side sides n = if n == 0 then 0 else get_or sides (n - 1) 0

-- that of Black; none has who has a bye
abbrev pub black_side : List ℕ → Opponent → ℕ
black_side sides (opponents.Bye bye) = 0
black_side sides (opponents.Player n) = side sides n

-- a board at which two teams meet, and one of these is this team
abbrev pub is_of : List ℕ → ℕ → Meeting → Bool
is_of sides team m =
    not (side sides m.white == 0) && not (black_side sides m.black == 0)
    && not (side sides m.white == black_side sides m.black)
    && (side sides m.white == team || black_side sides m.black == team)

-- the team's first board in a round
abbrev pub first_of : List ℕ → ℕ → List Meeting → Option Meeting
first_of sides team [] = None
first_of sides team (m ∷ ms) = if is_of sides team m then Some m else first_of sides team ms

-- a board at which these two meet
abbrev pub is_between : List ℕ → ℕ → ℕ → Meeting → Bool
is_between sides one other m =
    (side sides m.white == one && black_side sides m.black == other)
    || (side sides m.white == other && black_side sides m.black == one)

-- what a board is worth to a team, in half points: what its player has there, also by a bye; without a result nothing
-- so far
abbrev pub points_on : List ℕ → ℕ → Meeting → ℕ
points_on sides team m =
    if side sides m.white == team then (white_cell m m.black).halves
    else (if black_side sides m.black == team then (black_cell m).halves else 0)

-- a team's board points in a round
abbrev pub board_points : List ℕ → ℕ → List Meeting → ℕ
board_points sides team round = sum_by (points_on sides team) round

abbrev pub is_open : Score → Bool
is_open scores.White = false
is_open scores.Black = false
is_open scores.Draw = false
is_open scores.HalfWhite = false
is_open scores.HalfBlack = false
is_open scores.Neither = false
is_open scores.Open = true

-- A match goes on while one of its boards has no result, and is a forfeit where each board is one.
abbrev pub goes_on : List ℕ → ℕ → ℕ → List Meeting → Bool
goes_on sides one other round = list_any (λ m. is_between sides one other m && is_open m.score) round

abbrev pub is_unplayed : List ℕ → ℕ → ℕ → List Meeting → Bool
is_unplayed sides one other round = list_all (λ m. not (is_between sides one other m) || is_forfeit m.play) round

-- The team with more board points has won the match, with as many it is drawn, and both have lost it where neither has
-- any. So a match is worth two points, one or none, as a game is so many half points.
abbrev pub match_score : (ours theirs : ℕ) → Score
match_score ours theirs =
    if nat_lt theirs ours then scores.White
    else (if nat_lt ours theirs then scores.Black
    else (if ours == 0 then scores.Neither else scores.Draw))

-- the match of two teams in a round, in which one is named first; it has the number of its first board
abbrev pub match_of : List ℕ → (first one other : ℕ) → List Meeting → Meeting
match_of sides first one other round =
    record {
      board = first;
      white = one;
      black = opponents.Player other;
      score =
          if goes_on sides one other round then scores.Open
          else match_score (board_points sides one round) (board_points sides other round);
      play = if is_unplayed sides one other round then plays.Forfeit else plays.Board;
    }

-- the first bye in a round that a player of a team has, as that of the team
abbrev pub bye_at : List ℕ → ℕ → Meeting → Opponent → Option Meeting → Option Meeting
bye_at sides team m (opponents.Bye bye) later =
    if side sides m.white == team then Some (record m { white = team }) else later
bye_at sides team m (opponents.Player n) later = later

abbrev pub bye_of : List ℕ → ℕ → List Meeting → Option Meeting
bye_of sides team [] = None
bye_of sides team (m ∷ ms) = bye_at sides team m m.black (bye_of sides team ms)

-- a board of a match at which one player is alone: a bye of a player of either team
abbrev pub is_alone : List ℕ → (one other : ℕ) → Meeting → Opponent → Bool
is_alone sides one other m (opponents.Bye bye) = side sides m.white == one || side sides m.white == other
is_alone sides one other m (opponents.Player n) = false

-- Colours alternate from board to board: so where an odd number of such boards stands before the first at which the two
-- meet, who has Black there would have White at the first of all.
abbrev pub is_turned : List ℕ → (one other : ℕ) → Bool → List Meeting → Bool
is_turned sides one other turned [] = turned
is_turned sides one other turned (m ∷ ms) =
    if is_between sides one other m then turned
    else is_turned sides one other (if is_alone sides one other m m.black then not turned else turned) ms

-- A match is named after the team that has White at its first board, or would have it there.
abbrev pub is_led : List ℕ → ℕ → List Meeting → (white black : ℕ) → Bool
is_led sides team round white black =
    if is_turned sides white black false round then black == team else white == team

-- the other one of two teams
abbrev pub other_side : (team white black : ℕ) → ℕ
other_side team white black = if white == team then black else white

-- the match in which a team is named first; a team without a match has a bye where one of its players has one
abbrev pub led_by : List ℕ → ℕ → List Meeting → Option Meeting → List Meeting
led_by sides team round None = option_to_list (bye_of sides team round)
led_by sides team round (Some m) =
    if is_led sides team round (side sides m.white) (black_side sides m.black)
    then match_of sides m.board team (other_side team (side sides m.white) (black_side sides m.black)) round ∷ []
    else []

-- the matches and byes of a round, and of each round, among so many teams
abbrev pub matches_in : List ℕ → List Meeting → ℕ → List Meeting
matches_in sides round zero = []
matches_in sides round (suc count) =
    matches_in sides round count ++ led_by sides (suc count) round (first_of sides (suc count) round)

abbrev pub all_matches : List ℕ → ℕ → List (List Meeting) → List (List Meeting)
all_matches sides count rounds = map (λ round. matches_in sides round count) rounds

-- a team's board points in all rounds, and those of so many teams
abbrev pub total_points : List ℕ → ℕ → List (List Meeting) → ℕ
total_points sides team rounds = sum_by (board_points sides team) rounds

abbrev pub all_points : List ℕ → List (List Meeting) → ℕ → List ℕ
all_points sides rounds zero = []
all_points sides rounds (suc count) = all_points sides rounds count ++ (total_points sides (suc count) rounds ∷ [])

-- Whether a team's first board is against this one.
abbrev pub is_against : List ℕ → ℕ → ℕ → Option Meeting → Bool
is_against sides one other None = false
is_against sides one other (Some m) = is_between sides one other m

-- Whether a board is of a match: two teams meet there, and neither meets another one before. A bye, of none, passes.
abbrev pub is_matched : List ℕ → List Meeting → Meeting → Opponent → Bool
is_matched sides round m (opponents.Bye bye) = true
is_matched sides round m (opponents.Player n) =
    is_of sides (side sides m.white) m
    && is_against sides (side sides m.white) (side sides n) (first_of sides (side sides m.white) round)
    && is_against sides (side sides m.white) (side sides n) (first_of sides (side sides n) round)

-- whether no round has more boards than there may be players
abbrev pub are_few : List (Vec Meeting) → Bool
are_few rounds = list_all (λ round. nat_le (length round.items) 9_999) rounds
