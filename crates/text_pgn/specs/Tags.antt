-- The tags of a game as the archive has them.
use Rattle.std.specs.Prelude.{ℕ, ◌||◌, ◌==◌, List, [], ◌∷◌, ◌++◌, codes, Option, Some, None, flat_map, if◌then◌else◌}
use Rattle.std.specs.List.{before_first}
use Rattle.std.specs.Str.{bytes_eq}
use Rattle.text_pgn.specs.Pgn.{is_tag}
use Rattle.text_pgn.specs.declared.heading.Heading.{Heading}

-- what stands before the value: `[Name`
abbrev pub head_of : List ℕ → List ℕ
head_of line = before_first (λ b. b == 32) line

-- the value that stands in the place of the server's, by the tag's head; none where the server's stays
unfoldable pub value_for : Heading → List ℕ → Option (List ℕ)
value_for h head =
    if bytes_eq head (codes "[Event") then Some h.event.now
    else (if bytes_eq head (codes "[Site") then Some h.site.now
    else (if bytes_eq head (codes "[Date") then Some h.date.now
    else (if bytes_eq head (codes "[Round") then Some h.round.now
    else (if bytes_eq head (codes "[White") then Some h.white.now
    else (if bytes_eq head (codes "[Black") then Some h.black.now
    else None)))))

-- a backslash before each quote and each backslash (PGN Standard, section 7)
abbrev pub escaped_byte : ℕ → List ℕ
escaped_byte b = if b == 34 || b == 92 then 92 ∷ b ∷ [] else b ∷ []

abbrev pub escaped : List ℕ → List ℕ
escaped value = flat_map escaped_byte value

-- `[Name "Value"]`, or the server's line
abbrev pub told_value : List ℕ → Option (List ℕ) → List ℕ
told_value line None = line
told_value line (Some value) = head_of line ++ (codes " \"" ++ (escaped value ++ codes "\"]"))

-- a tag's line with its line feed; nothing for another line
unfoldable pub told_tag : Heading → List ℕ → List ℕ
told_tag h line = if is_tag line then told_value line (value_for h (head_of line)) ++ codes "\n" else []

-- the tags of a text's lines, in their order
abbrev pub told_tags : Heading → List (List ℕ) → List ℕ
told_tags h lines = flat_map (told_tag h) lines
