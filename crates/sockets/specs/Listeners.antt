-- How a listener is asked for connections.
use Rattle.std.specs.Prelude.{ℕ, ◌≤◌, ◌<◌, ◌-◌, ◌^◌, ◌⊎◌}

-- Tries were made, as their count tells, which goes up to 2^64 - 1.
abbrev pub IsAsked : ℕ → ℕ → Type 0
IsAsked old new = (old < new) ⊎ (2 ^ 64 - 1 ≤ old) × (old ≤ new)
