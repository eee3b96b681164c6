-- Whom a tag of a PGN calls so, and what is told of this player. Who is called so is told by name, by the full name of
-- the particulars, or by that of the players' file.
use Rattle.std.specs.Prelude.{ℕ, Bool, not, ◌&&◌, ◌||◌, List, [], ◌∷◌, find, Option, None, Some, is_none}
use Rattle.std.specs.Prelude.{option_map, if◌then◌else◌}
use Rattle.std.specs.List.{list_any}
use Rattle.std.specs.Str.{bytes_eq}
use Rattle.std.specs.String.{string_bytes}
use Rattle.lobby_words.specs.declared.players.Player.{Player}
use Rattle.night_report.specs.declared.particulars.Particulars.{Particulars}
use Rattle.night_games.specs.Particulars.{texts_of}

-- whether a player of the players' file has this name and this full name
abbrev pub has_names : (name full_name : List ℕ) → Player → Bool
has_names name full_name player = bytes_eq player.name name && bytes_eq (string_bytes player.full_name) full_name

-- whether a tag of this value calls so the player of this name, of whom the particulars have this full name
abbrev pub is_called : List Player → (name full_name value : List ℕ) → Bool
is_called players name full_name value =
    bytes_eq value name || (bytes_eq value full_name || list_any (has_names name value) players)

-- the row of this name
abbrev pub row_of : List Particulars → List ℕ → Option Particulars
row_of known name = find (λ (row : Particulars). bytes_eq row.name.now name) known

-- Whether a player is called so of whom no row tells. An arbiter is none: to play, an arbiter has another name.
abbrev pub is_untold : List Particulars → List ℕ → Player → Bool
is_untold known value player =
    not player.is_arbiter && ((bytes_eq player.name value || bytes_eq (string_bytes player.full_name) value)
    && is_none (row_of known player.name))

-- what two texts have alike: all, and nothing where they differ
abbrev pub common_text : List ℕ → List ℕ → List ℕ
common_text one other = if bytes_eq one other then one else []

abbrev pub common : List (List ℕ) → List (List ℕ) → List (List ℕ)
common [] others = []
common (one ∷ ones) [] = []
common (one ∷ ones) (other ∷ others) = common_text one other ∷ common ones others

abbrev pub with_row : Option (List (List ℕ)) → List (List ℕ) → List (List ℕ)
with_row None texts = texts
with_row (Some before) texts = common before texts

-- what those of these rows tell alike who are called so, and what was told alike before them
abbrev pub shared_from :
    List Player → List ℕ → Option (List (List ℕ)) → List Particulars → Option (List (List ℕ))
shared_from players value before [] = before
shared_from players value before (row ∷ rows) =
    shared_from players value
    (if is_called players row.name.now row.full_name.now value then Some (with_row before (texts_of row)) else before)
    rows

-- What is told where nothing says who it is: what the rows of all who are called so have alike, and nothing where
-- nothing is known of one of them.
abbrev pub shared : List Player → List Particulars → List ℕ → Option (List (List ℕ))
shared players known value =
    if list_any (is_untold known value) players then None else shared_from players value None known

abbrev pub full_name_in : Option Particulars → List ℕ
full_name_in None = []
full_name_in (Some row) = row.full_name.now

-- What is told of a player by a tag of this value. The board's player of this name, where that one is called so: then
-- it is the row of the name, if there is one, whoever else is called so.
abbrev pub told_as : List Player → List Particulars → Option (List ℕ) → List ℕ → Option (List (List ℕ))
told_as players known None value = shared players known value
told_as players known (Some name) value =
    if is_called players name (full_name_in (row_of known name)) value then option_map texts_of (row_of known name)
    else shared players known value
