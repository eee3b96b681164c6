-- What the fields of a line say.
use Rattle.std.specs.Prelude.{ℕ, ◌<◌, ◌≤◌, Bool, true, false, List, [], ◌∷◌, ◌++◌, length, codes, decimal, Option, Some}
use Rattle.std.specs.Prelude.{None}
use Rattle.std.specs.List.{All}
use Rattle.arrayvec.specs.ArrayString.{ArrayString}

-- a number has 32 bits; it is written without leading zeros
abbrev pub IsNumber : ℕ → Type 0
IsNumber n = n ≤ 4294967295

-- the text of one field: visible characters of ASCII, at least one
pub record IsField (text : List ℕ) : Type 0 where
  pub some : 0 < length text
  pub short : length text ≤ 255
  pub visible : All (λ b. (33 ≤ b) × (b ≤ 126)) text

-- a text that may also have spaces, as the rest of a line
pub record IsRest (text : List ℕ) : Type 0 where
  pub some : 0 < length text
  pub short : length text ≤ 255
  pub printable : All (λ b. (32 ≤ b) × (b ≤ 126)) text

-- what a claim is for: fifty moves without a capture or a pawn's move, or the third occurrence
abbrev pub claim_word : Bool → List ℕ
claim_word true = codes "fifty"
claim_word false = codes "three"

-- the initial time, or with a second period `MOVES/INITIAL:SECOND`
abbrev pub times_text : ℕ → Option (ℕ × ℕ) → List ℕ
times_text initial None = decimal initial
times_text initial (Some period) = decimal period.0 ++ (47 ∷ decimal initial ++ (58 ∷ decimal period.1))

abbrev pub AreTimes : ℕ → Option (ℕ × ℕ) → Type 0
AreTimes initial None = IsNumber initial
AreTimes initial (Some period) = IsNumber period.0 × IsNumber initial × IsNumber period.1

-- a field that may be left out
abbrev pub optional : Option ArrayString → List (List ℕ)
optional None = []
optional (Some text) = text.bytes ∷ []
