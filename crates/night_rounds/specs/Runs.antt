-- What becomes of a board while `start` is killed at any moments and given again, its server goes on, and others open,
-- join, end and drop games.
use Rattle.std.specs.Prelude.{ℕ, ◌≡◌, ◌≤◌, ◌==◌, ◌&&◌, Bool, true, false, not, List, [], ◌∷◌, ◌++◌, length, filter}
use Rattle.std.specs.Prelude.{Option, None, Some, if◌then◌else◌}
use Rattle.std.specs.List.{list_any}
use Rattle.night_rounds.specs.declared.steps.Seats.{Seats}
use Rattle.night_rounds.specs.declared.steps.Step.{Step}
use Rattle.night_rounds.specs.declared.steps.Step.TheVariants as steps
use Rattle.night_rounds.specs.declared.steps.Row.{Row}
use Rattle.night_rounds.specs.Newer.{is_newer, is_newest}
use Rattle.night_rounds.specs.Notes.{Reached, Opening, Opened, Joined, game_in}
use Rattle.night_rounds.specs.Steps.{sits, candidates_in, numbers_of, step_of}

-- A board: its players, and which games have its times and begin with the initial position. That is so of a game, or is
-- not, all the time: a game has the times that it was opened with, and the board has those that it had at first.
pub record Board : Type 0 where
  pub white : List ℕ
  pub black : List ℕ
  pub fits : ℕ → Bool

-- How it stands: the games on the table; the numbers of all games that were given so far; the board's last note; of a
-- `start` that runs what it saw of the table, and what it is about to do; and the games that `start` has opened for the
-- board.
pub record Standing : Type 0 where
  pub rows : List Row
  pub given : List ℕ
  pub note : Option Reached
  pub seen : List Row
  pub does : Option Step
  pub opened : List ℕ

-- What happens. `start` looks at the table, and sees these seats of the game that was noted; what it is about to do is
-- done: it notes this game as the newest of the older ones, and a game that is paired gets this number, which is noted,
-- or it is killed before; it is killed; and the table is another, with more games given: players act, and the lobby has
-- Black join what it opens for a pair.
pub data RunStep : Type 0 where
  Looks : (seats : Option Seats) → RunStep
  Acts : (older : Option ℕ) → (game : ℕ) → (is_noted : Bool) → RunStep
  Dies : RunStep
  Passes : (rows : List Row) → (more : List ℕ) → RunStep

-- the games that may be the board's and have its times, where it is about to be opened
abbrev pub games_at : Board → Option Reached → List Row → List ℕ
games_at b None rows = []
games_at b (Some (Opening older)) rows = filter b.fits (candidates_in older b.white rows)
games_at b (Some (Opened game)) rows = []
games_at b (Some (Joined game)) rows = []

abbrev pub step_at : Board → Option Reached → List Row → Option Seats → Step
step_at b note seen seats = step_of b.white b.black note (games_at b note seen) seats

abbrev pub looked : Board → Option Seats → Standing → Standing
looked b seats s = record s { seen = s.rows; does = Some (step_at b s.note s.rows seats) }

abbrev pub noted : Reached → Option Step → Standing → Standing
noted note next s = record s { note = Some note; does = next }

-- a game that White opened
abbrev pub row_of : Board → ℕ → Row
row_of b game = record { game = game; white = Some b.white; black = None }

abbrev pub with_opened_game : Board → ℕ → Standing → Standing
with_opened_game b game s = record s {
  rows = s.rows ++ (row_of b game ∷ []);
  given = s.given ++ (game ∷ []);
  does = None;
  opened = s.opened ++ (game ∷ []);
}

-- what `start` is about to do is done; what was noted it goes on with, without another look
abbrev pub acted : Board → Option ℕ → ℕ → Bool → Option Step → Standing → Standing
acted b older game is_noted None s = s
acted b older game is_noted (Some steps.Begin) s = noted (Opening older) (Some steps.Pair) s
acted b older game is_noted (Some steps.Pair) s =
    if is_noted then noted (Joined game) None (with_opened_game b game s) else with_opened_game b game s
acted b older game is_noted (Some (steps.Take one)) s = noted (Opened one) None s
acted b older game is_noted (Some (steps.Join one)) s = record s { does = None }
acted b older game is_noted (Some (steps.Note one)) s = noted (Joined one) None s
acted b older game is_noted (Some (steps.Has one)) s = record s { does = None }
acted b older game is_noted (Some steps.Ask) s = record s { does = None }

abbrev pub happened : Board → RunStep → Standing → Standing
happened b (Looks seats) s = looked b seats s
happened b (Acts older game is_noted) s = acted b older game is_noted s.does s
happened b Dies s = record s { does = None }
happened b (Passes rows more) s = record s { rows = rows; given = s.given ++ more }

-- what is newer than those games is newer than these
abbrev pub TellNewer : List ℕ → List ℕ → Type 0
TellNewer those these = (n : ℕ) → is_newest those n ≡ true → is_newest these n ≡ true

-- this game is no newer than those: what is newer than them is newer than it
abbrev pub IsNoNewer : List ℕ → Option ℕ → Type 0
IsNoNewer those this = (n : ℕ) → is_newest those n ≡ true → is_newer this n ≡ true

-- what `start` notes is no newer than the games that it saw, and what the server opens has a new number, and the
-- board's times
abbrev pub IsDone : Board → Option ℕ → ℕ → Option Step → Standing → Type 0
IsDone b older game (Some steps.Begin) s = IsNoNewer (numbers_of s.seen) older
IsDone b older game (Some steps.Pair) s = (is_newest s.given game ≡ true) × (b.fits game ≡ true)
IsDone b older game _ s = Unit {0}

-- the table has this game, and White sits in it
abbrev pub has_game : List ℕ → ℕ → List Row → Bool
has_game white game rows = list_any (λ row. (row.game == game) && sits white row.white) rows

-- While it is noted that the board's game is about to be opened, the one that `start` opened for it stays on the table.
abbrev pub Stays : Board → Option Reached → List ℕ → List Row → List Row → Type 0
Stays b (Some (Opening older)) opened old new =
    (game : ℕ) → list_any (λ one. one == game) opened ≡ true → has_game b.white game old ≡ true
    → has_game b.white game new ≡ true
Stays b _ opened old new = Unit {0}

-- What may happen. The arbiter says nothing meanwhile.
abbrev pub IsAllowed : Board → RunStep → Standing → Type 0
IsAllowed b (Looks seats) s = Unit {0}
IsAllowed b (Acts older game is_noted) s = IsDone b older game s.does s
IsAllowed b Dies s = Unit {0}
IsAllowed b (Passes rows more) s = TellNewer (s.given ++ more) (numbers_of rows) × Stays b s.note s.opened s.rows rows

abbrev pub after_all : Board → List RunStep → Standing → Standing
after_all b [] s = s
after_all b (event ∷ events) s = after_all b events (happened b event s)

abbrev pub AreAllowed : Board → List RunStep → Standing → Type 0
AreAllowed b [] s = Unit {0}
AreAllowed b (event ∷ events) s = IsAllowed b event s × AreAllowed b events (happened b event s)

-- Before the first call: nothing was noted or opened, and the games of the table were given.
pub record IsBeginning (s : Standing) : Type 0 where
  pub given : TellNewer s.given (numbers_of s.rows)
  pub note : s.note ≡ None
  pub does : s.does ≡ None
  pub opened : s.opened ≡ []

-- the game that was noted as the board's
abbrev pub game_noted : Option Reached → Option ℕ
game_noted None = None
game_noted (Some stage) = game_in stage

-- `start` has opened one game at most for the board, and where one is noted as the board's, no other.
pub record HasOneGame (s : Standing) : Type 0 where
  pub once : length s.opened ≤ 1
  pub noted : (game : ℕ) → game_noted s.note ≡ Some game → list_any (λ one. not (one == game)) s.opened ≡ false
