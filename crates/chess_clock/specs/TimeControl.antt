-- The times that a game is played with, in seconds (our own choice: the FIDE Laws leave them to the event).
use Rattle.std.specs.Prelude.{Bool, false, ℕ, ◌-◌, ◌*◌, ◌≤◌, Option, Some, None, if◌then◌else◌, nat_le}
use Rattle.std.specs.Option.{ForSome}

-- Each side begins with the initial time, and gets the increment with each move that it completes. With a period of
-- so many moves and so many seconds, it gets these seconds too once it has completed these moves.
pub record TimeControl : Type 0 where
  pub initial : ℕ
  pub increment : ℕ
  pub period : Option (ℕ × ℕ)

abbrev pub time_control : ℕ → ℕ → Option (ℕ × ℕ) → TimeControl
time_control initial increment period = record { initial = initial; increment = increment; period = period }

-- 1 to 255 moves, and a second period of 1 to 86,400 seconds
pub record IsPeriod (period : ℕ × ℕ) : Type 0 where
  pub moves_from : 1 ≤ period.0
  pub moves_to : period.0 ≤ 255
  pub seconds_from : 1 ≤ period.1
  pub seconds_to : period.1 ≤ 86400

-- times that may be set: 1 to 86,400 seconds to begin with, and an increment of at most 60
pub record IsTimeControl (control : TimeControl) : Type 0 where
  pub initial_from : 1 ≤ control.initial
  pub initial_to : control.initial ≤ 86400
  pub increment_to : control.increment ≤ 60
  pub period_in_range : ForSome control.period IsPeriod

-- the milliseconds of the second period, 0 where there is none
abbrev pub second_time : Option (ℕ × ℕ) → ℕ
second_time None = 0
second_time (Some period) = 1000 * period.1

-- whether it has begun for a side that has completed so many moves in the game
abbrev pub has_second : Option (ℕ × ℕ) → ℕ → Bool
has_second None completed = false
has_second (Some period) completed = nat_le period.0 completed

-- the milliseconds that it has added for that side
abbrev pub second_period : Option (ℕ × ℕ) → ℕ → ℕ
second_period period completed = if has_second period completed then second_time period else 0

-- The moves that a side has still to complete before its second period begins, of which it has completed so many; 0
-- where the period has begun, and where there is none.
abbrev pub moves_to_go : Option (ℕ × ℕ) → ℕ → ℕ
moves_to_go None completed = 0
moves_to_go (Some period) completed = period.0 - completed
