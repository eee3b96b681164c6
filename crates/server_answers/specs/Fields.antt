-- A line in fields, which stand with one space between.
use Rattle.std.specs.Prelude.{ℕ, zero, suc, ◌+◌, ◌==◌, Bool, List, [], ◌∷◌}
use Rattle.std.specs.List.{before_first, after_first, count_by, join_with_byte}

-- the first field of a line, which ends at a space, and what stands behind that
abbrev pub field_of : List ℕ → List ℕ
field_of line = before_first (λ b. b == 32) line

abbrev pub rest_of : List ℕ → List ℕ
rest_of line = after_first (λ b. b == 32) line

-- the field that stands behind so many others
abbrev pub field : ℕ → List ℕ → List ℕ
field zero line = field_of line
field (suc n) line = field n (rest_of line)

-- the first fields of a line, so many
abbrev pub first_fields : ℕ → List ℕ → List (List ℕ)
first_fields zero line = []
first_fields (suc n) line = field_of line ∷ first_fields n (rest_of line)

-- how many fields a line has: one more than spaces
abbrev pub field_count : List ℕ → ℕ
field_count line = count_by (λ b. b == 32) line + 1

abbrev pub has_fields : ℕ → List ℕ → Bool
has_fields n line = field_count line == n

-- the line of these fields
abbrev pub line_of : List (List ℕ) → List ℕ
line_of fields = join_with_byte 32 fields
