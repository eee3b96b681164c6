-- What the answers are made of: fields with one space between.
use Rattle.std.specs.Prelude.{ℕ, List, [], ◌∷◌, ◌++◌, Option, Some, None, codes, decimal}
use Rattle.chess_end.specs.declared.ending.Ending.{Ending}
use Rattle.chess_text.specs.Pgn.{score_text, article_text}

-- a text, and behind it these fields with one space before each
abbrev pub with_fields : List ℕ → List (List ℕ) → List ℕ
with_fields text [] = text
with_fields text (field ∷ fields) = with_fields (text ++ (32 ∷ field)) fields

-- `ok`, a word, a number and more fields
abbrev pub ok_text : List ℕ → ℕ → List (List ℕ) → List ℕ
ok_text word number fields = with_fields (codes "ok") (word ∷ decimal number ∷ fields)

-- END: nothing, or the result and the article by which the game is over
abbrev pub end_fields : Option Ending → List (List ℕ)
end_fields None = []
end_fields (Some ending) = score_text ending.result ∷ article_text ending.article ∷ []

-- a player's name, or `-` for an empty seat
abbrev pub seat_text : Option (List ℕ) → List ℕ
seat_text None = codes "-"
seat_text (Some name) = name
