-- The rows `N SAN MOVE FEN` of an answer to `line G`, as they are read.
use Rattle.std.specs.Prelude.{ℕ, ◌==◌, List, [], ◌∷◌, drop}
use Rattle.std.specs.List.{before_first, after_first}
use Rattle.text_parts.specs.Parts.{parts_of}

-- what stands before the first space, and what behind it
abbrev pub first_field : List ℕ → List ℕ
first_field text = before_first (λ b. b == 32) text

abbrev pub next_fields : List ℕ → List ℕ
next_fields text = after_first (λ b. b == 32) text

abbrev pub san_in : List ℕ → List ℕ
san_in row = first_field (next_fields row)

abbrev pub move_in : List ℕ → List ℕ
move_in row = first_field (next_fields (next_fields row))

abbrev pub position_in : List ℕ → List ℕ
position_in row = next_fields (next_fields (next_fields row))

-- the rows of an answer, which stand behind its first line: that of the start, and one for each move
abbrev pub rows_in : List ℕ → List (List ℕ)
rows_in answer = drop 1 (parts_of 10 answer)

-- the first of rows and those behind it; of no row an empty one
abbrev pub start_row : List (List ℕ) → List ℕ
start_row [] = []
start_row (row ∷ rows) = row

abbrev pub move_rows : List (List ℕ) → List (List ℕ)
move_rows [] = []
move_rows (row ∷ rows) = rows

-- the last of rows, the first of them being this one
abbrev pub last_from : List ℕ → List (List ℕ) → List ℕ
last_from row [] = row
last_from row (next ∷ rows) = last_from next rows

abbrev pub last_row : List (List ℕ) → List ℕ
last_row rows = last_from (start_row rows) (move_rows rows)
