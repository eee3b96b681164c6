-- What is to be done about a board.
use Rattle.std.specs.Prelude.{ℕ, ◌&&◌, Bool, true, false, not, List, [], ◌∷◌, flat_map, map, Option, None, Some}
use Rattle.std.specs.Prelude.{if◌then◌else◌}
use Rattle.std.specs.Str.{bytes_eq}
use Rattle.night_rounds.specs.declared.steps.Seats.{Seats}
use Rattle.night_rounds.specs.declared.steps.Step.{Step}
use Rattle.night_rounds.specs.declared.steps.Step.TheVariants as steps
use Rattle.night_rounds.specs.declared.steps.Row.{Row}
use Rattle.night_rounds.specs.Newer.{is_newer}
use Rattle.night_rounds.specs.Notes.{Reached, Opening, Opened, Joined}

-- nobody sits there, or this player
abbrev pub is_free_for : List ℕ → Option (List ℕ) → Bool
is_free_for name None = true
is_free_for name (Some other) = bytes_eq other name

abbrev pub sits : List ℕ → Option (List ℕ) → Bool
sits name None = false
sits name (Some other) = bytes_eq other name

-- A game that may be the board's: opened since that was noted, and White's own, whoever has joined it.
abbrev pub may_be : Option ℕ → List ℕ → Row → Bool
may_be older white row = is_newer older row.game && sits white row.white

abbrev pub game_where : Option ℕ → List ℕ → Row → List ℕ
game_where older white row = if may_be older white row then row.game ∷ [] else []

abbrev pub candidates_in : Option ℕ → List ℕ → List Row → List ℕ
candidates_in older white rows = flat_map (game_where older white) rows

-- the games of the table
abbrev pub numbers_of : List Row → List ℕ
numbers_of rows = map (λ row. row.game) rows

-- Of games that may be the board's and have its times: it is paired where there is none, the one is its, and of several
-- nobody knows which.
abbrev pub step_of_games : List ℕ → Step
step_of_games [] = steps.Pair
step_of_games (game ∷ []) = steps.Take game
step_of_games (game ∷ other ∷ games) = steps.Ask

-- Of the board's game, by its seats; none where it has left the table, before it was noted that Black joined.
abbrev pub step_of_seats : ℕ → List ℕ → List ℕ → Option Seats → Step
step_of_seats game white black None = steps.Ask
step_of_seats game white black (Some seats) =
    if not (sits white seats.white) then steps.Ask
    else (if sits black seats.black then steps.Note game
    else (if is_free_for black seats.black then steps.Join game else steps.Ask))

-- What is to be done, by how far the board's last note says it is: where it is about to be opened, by the games that
-- may be its and have its times; by the seats of its game where that was opened.
abbrev pub step_of : List ℕ → List ℕ → Option Reached → List ℕ → Option Seats → Step
step_of white black None games seats = steps.Begin
step_of white black (Some (Opening older)) games seats = step_of_games games
step_of white black (Some (Opened game)) games seats = step_of_seats game white black seats
step_of white black (Some (Joined game)) games seats = steps.Has game
