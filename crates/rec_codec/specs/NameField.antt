use Rattle.std.specs.Prelude.{ℕ, List, ◌∷◌, length, replicate, Option, Some, None}
use Rattle.player_name.specs.Name.{padded}
use Rattle.rec_codec.specs.Field.{Field}

-- a name's field has 17 bytes: its length and 16 bytes; all are zero where there is no name
abbrev pub name_bytes : Option (List ℕ) → List ℕ
name_bytes None = replicate 17 0
name_bytes (Some text) = length text ∷ padded text

abbrev pub name : ℕ → Option (List ℕ) → Field
name at text = record { offset = at; width = 17; bytes = name_bytes text }
