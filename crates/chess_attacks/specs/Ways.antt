use Rattle.std.specs.Prelude.{ℕ, ◌≡◌, ◌<◌, ◌⊎◌, List, [], ◌∷◌, slice_index_or}
use Rattle.chess_bits.specs.declared.steps.Step.{Step}
use Rattle.chess_bits.specs.Attack.{north, east, south, west, north_east, south_east, south_west, north_west}

-- the eight ways over the board, clockwise from north
abbrev pub ways : List Step
ways =
    north ∷ north_east ∷ east ∷ south_east ∷ south ∷ south_west ∷ west ∷ north_west ∷ []

-- the step of a way below 8
abbrev pub way_step : ℕ → Step
way_step way = slice_index_or ways way north

-- the ways in which the numbers of squares rise (north, north-east, east and north-west), and the others
abbrev pub IsRising : ℕ → Type 0
IsRising way = (way < 3) ⊎ (way ≡ 7)

abbrev pub IsFalling : ℕ → Type 0
IsFalling way = (2 < way) × (way < 7)
