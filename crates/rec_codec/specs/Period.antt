use Rattle.std.specs.Prelude.{ℕ, Option, Some, None}

-- A second period has two numbers, which are 0 where there is none.
abbrev pub period_moves : Option (ℕ × ℕ) → ℕ
period_moves None = 0
period_moves (Some period) = period.0

abbrev pub period_second : Option (ℕ × ℕ) → ℕ
period_second None = 0
period_second (Some period) = period.1
