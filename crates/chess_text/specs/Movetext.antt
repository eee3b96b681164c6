use Rattle.std.specs.Prelude.{ℕ, Bool, ◌&&◌, nat_lt, nat_le, ◌≡◌, ◌≢◌, ◌≤◌, ◌<◌, List, [], ◌∷◌, ◌++◌, length, codes}
use Rattle.std.specs.List.{join_with_byte, list_all}
use Rattle.chess_notation.specs.Letters.{space}

-- a token is not empty, and fits into a line
pub record IsToken (token : List ℕ) : Type 0 where
  pub filled : 0 < length token
  pub short : length token ≤ 79

-- the same as a test
abbrev pub is_token : List ℕ → Bool
is_token token = nat_lt 0 (length token) && nat_le (length token) 79

abbrev pub are_tokens : List (List ℕ) → Bool
are_tokens tokens = list_all is_token tokens

-- the text of a line of tokens, with one space between each two (PGN Standard, section 8.2.1)
abbrev pub line_text : List (List ℕ) → List ℕ
line_text tokens = join_with_byte space tokens

-- a line has a token, and less than 80 characters
pub record IsLine (line : List (List ℕ)) : Type 0 where
  pub filled : line ≢ []
  pub short : length (line_text line) ≤ 79

-- a line that could not also take the first token of the next line
abbrev pub IsFull : List (List ℕ) → List (List (List ℕ)) → Type 0
IsFull line [] = Unit {0}
IsFull line ([] ∷ lines) = ⊥
IsFull line ((token ∷ more) ∷ lines) = 79 < length (line_text (line ++ (token ∷ [])))

-- lines that each take as many tokens as fit (PGN Standard, section 8.2.1)
abbrev pub AreLines : List (List (List ℕ)) → Type 0
AreLines [] = Unit {0}
AreLines (line ∷ lines) = IsLine line × IsFull line lines × AreLines lines

-- the tokens of lines, in order
abbrev pub tokens_of : List (List (List ℕ)) → List (List ℕ)
tokens_of [] = []
tokens_of (line ∷ lines) = line ++ tokens_of lines

-- each line ends with a line feed
abbrev pub lines_text : List (List (List ℕ)) → List ℕ
lines_text [] = []
lines_text (line ∷ lines) = line_text line ++ (codes "\n" ++ lines_text lines)

-- the text is the tokens in lines
pub record IsMovetext (text : List ℕ) (tokens : List (List ℕ)) : Type 0 where
  pub lines : List (List (List ℕ))
  pub laid : AreLines lines
  pub same : tokens_of lines ≡ tokens
  pub written : text ≡ lines_text lines

-- The same while tokens are written, after a text in front: no line feed stands behind the last line yet, which has
-- this many characters, and none where there is no line.
abbrev pub joined_lines : List (List (List ℕ)) → List ℕ
joined_lines [] = []
joined_lines (line ∷ []) = line_text line
joined_lines (line ∷ next ∷ lines) = line_text line ++ (codes "\n" ++ joined_lines (next ∷ lines))

abbrev pub last_width : List (List (List ℕ)) → ℕ
last_width [] = 0
last_width (line ∷ []) = length (line_text line)
last_width (line ∷ next ∷ lines) = last_width (next ∷ lines)

pub record IsUnderWay (front : List ℕ) (tokens : List (List ℕ)) (text : List ℕ) (width : ℕ) : Type 0 where
  pub lines : List (List (List ℕ))
  pub laid : AreLines lines
  pub same : tokens_of lines ≡ tokens
  pub written : text ≡ front ++ joined_lines lines
  pub last : width ≡ last_width lines
  pub none : width ≡ 0 → lines ≡ []

-- the new text is the old one with the tokens in lines
pub record PutsMovetext (old new : List ℕ) (tokens : List (List ℕ)) : Type 0 where
  pub movetext : List ℕ
  pub is_movetext : IsMovetext movetext tokens
  pub put : new ≡ old ++ movetext
