-- The moments of a list.
use Rattle.std.specs.Prelude.{ℕ, ◌≡◌, List, [], ◌∷◌}

-- Of the moments that are left the first is given, and where none is left the last that was.
abbrev pub IsNext : List ℕ → ℕ → ℕ → List ℕ → ℕ → Type 0
IsNext [] last at left given = (at ≡ last) × (left ≡ []) × (given ≡ last)
IsNext (moment ∷ moments) last at left given = (at ≡ moment) × (left ≡ moments) × (given ≡ moment)
