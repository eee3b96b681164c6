-- A text in parts.
use Rattle.std.specs.Prelude.{ℕ, ◌==◌, List, [], ◌∷◌, if◌then◌else◌}
use Rattle.std.specs.List.{onto_first}

-- A text cut at each sign; a sign at its very end opens no further part. With a line feed for the sign its parts are
-- its lines.
abbrev pub parts_of : ℕ → List ℕ → List (List ℕ)
parts_of sign [] = []
parts_of sign (b ∷ bs) = if b == sign then [] ∷ parts_of sign bs else onto_first b (parts_of sign bs)
