-- Lines of a text.
use Rattle.std.specs.Prelude.{ℕ, List, [], ◌∷◌, ◌++◌}
use Rattle.lobby_words.specs.Answers.{ended}

-- lines, one behind the other
abbrev pub bytes_of : List (List ℕ) → List ℕ
bytes_of [] = []
bytes_of (line ∷ lines) = ended line ++ bytes_of lines
