-- What has come of a session's lines, and was not taken.
use Rattle.std.specs.Prelude.{ℕ, ◌≡◌, Bool, true, List, [], ◌∷◌, ◌++◌, if◌then◌else◌}
use Rattle.std.specs.Io.BufRead.{strip_last}
use Rattle.text_lines.specs.Lines.{parts_of, ended_parts, lines_of, has_long_line, IsUnfinished}

-- lines, each with the line feed that ends it
abbrev pub ended_bytes : List (List ℕ) → List ℕ
ended_bytes [] = []
ended_bytes (part ∷ parts) = part ++ 10 ∷ ended_bytes parts

-- The bytes that are kept of an input: of a line that is too long, and after it, none.
abbrev pub kept_of : List ℕ → List ℕ
kept_of input = if has_long_line input then ended_bytes (ended_parts (parts_of input)) else input

-- The bytes that came and were not taken, and whether a line that is too long came after them.
pub record Heard : Type 0 where
  pub bytes : List ℕ
  pub is_long : Bool

abbrev pub heard : List ℕ → Bool → Heard
heard bytes is_long = record { bytes = bytes; is_long = is_long }

-- what a session has heard that is sent more bytes
abbrev pub heard_more : Heard → List ℕ → Heard
heard_more old piece = heard (kept_of (old.bytes ++ piece)) (has_long_line (old.bytes ++ piece))

-- Bytes that end where a line does, of which none is too long: what comes after them is cut by itself.
pub record IsWhole (bytes : List ℕ) : Type 0 where
  pub lines : (more : List ℕ) → lines_of (bytes ++ more) ≡ lines_of bytes ++ lines_of more
  pub long : (more : List ℕ) → has_long_line (bytes ++ more) ≡ has_long_line more
  pub kept : (more : List ℕ) → kept_of (bytes ++ more) ≡ bytes ++ kept_of more

-- How an input is cut: whole lines, and what comes after them. After a line that is too long that is nothing.
pub record IsCut (input lines rest : List ℕ) (is_long : Bool) : Type 0 where
  pub whole : IsWhole lines
  pub unfinished : IsUnfinished rest
  pub kept : kept_of input ≡ lines ++ rest
  pub long : has_long_line input ≡ is_long
  pub nothing : is_long ≡ true → rest ≡ []

-- The first whole line, without a carriage return at its end, and the bytes after its line feed.
pub record IsFirstLine (bytes line more : List ℕ) : Type 0 where
  pub part : List ℕ
  pub unfinished : IsUnfinished part
  pub stripped : line ≡ strip_last 13 part
  pub cut : bytes ≡ part ++ 10 ∷ more
  -- the other lines wait as before
  pub lines : lines_of bytes ≡ line ∷ lines_of more
