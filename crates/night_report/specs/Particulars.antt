-- Texts of CSV.
use Rattle.std.specs.Prelude.{ℕ, ◌==◌, Bool, List, [], length, get_or}

-- a field of a row, empty where it has none
abbrev pub cell : List (List ℕ) → ℕ → List ℕ
cell fields i = get_or fields i []

abbrev pub is_empty : List ℕ → Bool
is_empty text = length text == 0
