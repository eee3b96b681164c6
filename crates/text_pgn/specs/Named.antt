-- A PGN with other names of the players.
use Rattle.std.specs.Prelude.{ℕ, List, ◌++◌, codes, Option, Some, None, flat_map, if◌then◌else◌}
use Rattle.std.specs.Str.{bytes_eq}
use Rattle.text_parts.specs.Parts.{parts_of}
use Rattle.text_pgn.specs.Tags.{head_of, told_value}

-- the name that stands in the place of a tag's value, by the tag's head
abbrev pub name_for : List ℕ → List ℕ → List ℕ → Option (List ℕ)
name_for white black head =
    if bytes_eq head (codes "[White") then Some white else (if bytes_eq head (codes "[Black") then Some black else None)

-- a line with its line feed: of a player's tag with the name in the place of its value
abbrev pub named_line : List ℕ → List ℕ → List ℕ → List ℕ
named_line white black line = told_value line (name_for white black (head_of line)) ++ codes "\n"

abbrev pub named_lines : List ℕ → List ℕ → List (List ℕ) → List ℕ
named_lines white black lines = flat_map (named_line white black) lines

-- a PGN, line by line
abbrev pub with_players : List ℕ → List ℕ → List ℕ → List ℕ
with_players white black pgn = named_lines white black (parts_of 10 pgn)
