-- The first lines of answers that have more lines behind them, and the answers to `fen` and `name`.
use Rattle.std.specs.Prelude.{ℕ, ◌^◌, ◌<◌, Bool, ◌&&◌, List, [], ◌∷◌, codes, decimal, Option, None, Some, if◌then◌else◌}
use Rattle.std.specs.Str.{bytes_eq}
use Rattle.server_answers.specs.declared.heads.PgnHead.{PgnHead}
use Rattle.server_answers.specs.Fields.{field_of, rest_of, first_fields, has_fields, line_of}
use Rattle.server_answers.specs.Values.{u32_in}

-- `ok list K`
abbrev pub list_line : ℕ → List ℕ
list_line count = line_of (codes "ok" ∷ codes "list" ∷ decimal count ∷ [])

-- `ok pgn G K`
abbrev pub pgn_line : PgnHead → List ℕ
pgn_line head = line_of (codes "ok" ∷ codes "pgn" ∷ decimal head.game ∷ decimal head.lines ∷ [])

pub record IsPgnHead (head : PgnHead) : Type 0 where
  pub game : head.game < 2 ^ 32
  pub lines : head.lines < 2 ^ 32

-- ---- as they are read

abbrev pub list_by : List (List ℕ) → Option ℕ
list_by (ok ∷ list ∷ count ∷ []) =
    if bytes_eq ok (codes "ok") && bytes_eq list (codes "list") then u32_in count else None
list_by _ = None

unfoldable pub list_in : List ℕ → Option ℕ
list_in line = if has_fields 3 line then list_by (first_fields 3 line) else None

abbrev pub pgn_with : Option ℕ → Option ℕ → Option PgnHead
pgn_with None lines = None
pgn_with (Some game) None = None
pgn_with (Some game) (Some lines) = Some (record { game = game; lines = lines })

abbrev pub pgn_by : List (List ℕ) → Option PgnHead
pgn_by (ok ∷ pgn ∷ game ∷ count ∷ []) =
    if bytes_eq ok (codes "ok") && bytes_eq pgn (codes "pgn") then pgn_with (u32_in game) (u32_in count) else None
pgn_by _ = None

unfoldable pub pgn_in : List ℕ → Option PgnHead
pgn_in line = if has_fields 4 line then pgn_by (first_fields 4 line) else None

abbrev pub counted : Option ℕ → Option PgnHead → ℕ
counted (Some rows) head = rows
counted None (Some head) = head.lines
counted None None = 0

-- how many lines stand behind a first line
abbrev pub lines_behind : List ℕ → ℕ
lines_behind line = counted (list_in line) (pgn_in line)

-- which game's FEN an answer tells: `ok fen G` and six fields
abbrev pub fen_by : List (List ℕ) → Option ℕ
fen_by (ok ∷ fen ∷ game ∷ []) =
    if bytes_eq ok (codes "ok") && bytes_eq fen (codes "fen") then u32_in game else None
fen_by _ = None

unfoldable pub fen_in : List ℕ → Option ℕ
fen_in line = if has_fields 9 line then fen_by (first_fields 3 line) else None

-- whether an answer takes this name: `ok name NAME`
abbrev pub takes_name : List ℕ → List ℕ → Bool
takes_name name line =
    bytes_eq (field_of line) (codes "ok") && bytes_eq (field_of (rest_of line)) (codes "name")
    && bytes_eq (rest_of (rest_of line)) name
