-- Lines that go to the server.
use Rattle.std.specs.Prelude.{ℕ, ◌≡◌, List, [], ◌∷◌, ◌++◌, Option, None, Some, codes, decimal, if◌then◌else◌}
use Rattle.lobby_words.specs.Naming.{is_said}
use Rattle.lobby_table.specs.declared.server_line.ServerLine.{ServerLine}

-- the line that says a name
abbrev pub name_line : List ℕ → List ℕ
name_line name = codes "name " ++ name

-- the line that asks something of a game
abbrev pub game_line : List ℕ → ℕ → List ℕ
game_line word game = word ++ decimal game

-- the line that joins a game
abbrev pub join_line : ℕ → List ℕ
join_line game = game_line (codes "join ") game

-- what asks how a game stands, if one is named
abbrev pub notice_lines : Option ℕ → List (List ℕ)
notice_lines None = []
notice_lines (Some game) = game_line (codes "show ") game ∷ game_line (codes "fen ") game ∷ []

-- what says a name, where another or none was said last
abbrev pub name_lines : Option (List ℕ) → List ℕ → List (List ℕ)
name_lines said name = if is_said said name then [] else name_line name ∷ []

-- An act under a name, which is said before it where another or none was said last; and right behind it what asks how
-- its game stands, if it names one.
abbrev pub act_lines : Option (List ℕ) → List ℕ → List ℕ → Option ℕ → List (List ℕ)
act_lines said name line game =
    if is_said said name then line ∷ notice_lines game else name_line name ∷ line ∷ notice_lines game

-- what the server has told is the same
abbrev pub IsHeardSame : ServerLine → ServerLine → Type 0
IsHeardSame old new =
    (new.coming ≡ old.coming) × (new.last ≡ old.last) × (new.seats ≡ old.seats) × (new.refused ≡ old.refused)
    × (new.acted ≡ old.acted) × (new.pairings ≡ old.pairings) × (new.is_misnamed ≡ old.is_misnamed)
