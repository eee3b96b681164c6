-- How what a session has heard is held: whole lines, of which the first bytes were taken, and what has come of the
-- next.
use Rattle.std.specs.Prelude.{ℕ, ◌≡◌, ◌≤◌, ◌+◌, Bool, true, List, [], ◌++◌, drop, length}
use Rattle.text_lines.specs.Lines.{IsUnfinished}
use Rattle.text_lines.specs.Heard.{Heard, heard, IsWhole}

abbrev pub held_by : List ℕ → ℕ → List ℕ → Bool → Heard
held_by bytes count rest is_long = heard (drop count bytes ++ rest) is_long

pub record IsHolding (bytes : List ℕ) (count : ℕ) (rest : List ℕ) (is_long : Bool) : Type 0 where
  -- at most half of the bytes were taken
  pub half : count + count ≤ length bytes
  pub whole : IsWhole (drop count bytes)
  pub unfinished : IsUnfinished rest
  pub nothing : is_long ≡ true → rest ≡ []

-- So many bytes are held for those that wait: these all, and of those that were taken at most as many.
pub record IsHeldFor (held : ℕ) (waiting : Heard) : Type 0 where
  pub all : length waiting.bytes ≤ held
  pub half : held ≤ length waiting.bytes + length waiting.bytes
