-- Which games a look at the server's table asks about.
use Rattle.std.specs.Prelude.{ℕ, Bool, true, false, not, ◌&&◌, ◌||◌, ◌==◌, List, filter, Option, Some, None, is_some}
use Rattle.std.specs.List.{list_any}
use Rattle.std.specs.Str.{bytes_eq}
use Rattle.std.specs.String.{string_bytes}
use Rattle.server_answers.specs.declared.games.Row.{Row}
use Rattle.server_answers.specs.Games.{row_in}
use Rattle.night_links.specs.declared.table.ToldGame.{ToldGame}

-- both seats are taken
abbrev pub is_played : Row → Bool
is_played row = is_some row.seats.white && is_some row.seats.black

-- The game was asked about when its row of the list was this one.
abbrev pub is_told : List ToldGame → List ℕ → Bool
is_told told line = list_any (λ g. bytes_eq (string_bytes g.row) line) told

-- Something was said in the game that its row does not show, as an offer of a draw.
abbrev pub is_news : List ℕ → ℕ → Bool
is_news news game = list_any (λ one. one == game) news

-- A game that is played or over is asked about where its row is another than when it was asked about last, or where
-- something else was said in it; and no other is.
abbrev pub is_row_asked : List ToldGame → List ℕ → List ℕ → Option Row → Bool
is_row_asked told news line None = false
is_row_asked told news line (Some row) = is_played row && (is_news news row.game || not (is_told told line))

abbrev pub is_asked : List ToldGame → List ℕ → List ℕ → Bool
is_asked told news line = is_row_asked told news line (row_in line)

-- the rows of a list whose games are asked about
abbrev pub rows_asked : List ToldGame → List ℕ → List (List ℕ) → List (List ℕ)
rows_asked told news lines = filter (is_asked told news) lines
