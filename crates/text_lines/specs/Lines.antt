-- How the bytes of an input are cut into lines.
use Rattle.std.specs.Prelude.{ℕ, ◌≡◌, ◌≤◌, Bool, false, List, [], ◌∷◌, ◌==◌, map, length, nat_lt, if◌then◌else◌}
use Rattle.std.specs.List.{All, slice_split, list_any}
use Rattle.std.specs.Io.BufRead.{strip_last}

-- whether a byte is a line feed
abbrev pub is_feed : ℕ → Bool
is_feed b = b == 10

-- no byte is a line feed
abbrev pub HasNoFeed : List ℕ → Type 0
HasNoFeed bytes = All (λ b. is_feed b ≡ false) bytes

-- the input cut at its line feeds: a line feed ends each part but the last, which is the rest
abbrev pub parts_of : List ℕ → List (List ℕ)
parts_of input = slice_split is_feed input

-- more than 255 bytes without a line feed
abbrev pub is_too_long : List ℕ → Bool
is_too_long part = nat_lt 255 (length part)

-- the parts that a line feed ends, up to the first that is too long
abbrev pub ended_parts : List (List ℕ) → List (List ℕ)
ended_parts [] = []
ended_parts (part ∷ []) = []
ended_parts (part ∷ next ∷ parts) = if is_too_long part then [] else part ∷ ended_parts (next ∷ parts)

-- the whole lines, each without a carriage return at its end
abbrev pub lines_of : List ℕ → List (List ℕ)
lines_of input = map (strip_last 13) (ended_parts (parts_of input))

-- 256 bytes come without a line feed, also in the rest
abbrev pub has_long_line : List ℕ → Bool
has_long_line input = list_any is_too_long (parts_of input)

-- what may come before the line feed of a line: at most 255 bytes without a line feed
pub record IsUnfinished (held : List ℕ) : Type 0 where
  pub no_feed : HasNoFeed held
  pub short : length held ≤ 255
