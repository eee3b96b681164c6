-- Who watches which game, and who is told of the table.
use Rattle.std.specs.Prelude.{ℕ, Bool, false, ◌&&◌, ◌==◌, not, nat_le, List, [], ◌∷◌, ◌++◌, length, map, filter, Option}
use Rattle.std.specs.Prelude.{None, Some, if◌then◌else◌}
use Rattle.std.specs.List.{list_any}
use Rattle.lobby_table.specs.declared.watching.Watch.{Watch}

-- whether a connection watches a game
abbrev pub is_watch : ℕ → ℕ → Watch → Bool
is_watch c game w = w.by == c && w.game == game

abbrev pub watched : List Watch → ℕ → ℕ → Bool
watched watches c game = list_any (is_watch c game) watches

-- whether a connection is told of the table
abbrev pub at_table : List ℕ → ℕ → Bool
at_table table c = list_any (λ one. one == c) table

-- the games that are watched, each once for each connection that watches it
abbrev pub games_of : List Watch → List ℕ
games_of watches = map (λ (w : Watch). w.game) watches

-- whether a connection watches as many games as may be, and this is another
abbrev pub is_full : List Watch → ℕ → Option ℕ → Bool
is_full watches c None = false
is_full watches c (Some game) =
    nat_le 16 (length (filter (λ (w : Watch). w.by == c) watches)) && not (watched watches c game)

-- A connection watches a game more, the last of all, if it may and does not watch it.
abbrev pub watch_if : Bool → ℕ → ℕ → List Watch → List Watch
watch_if may c game watches =
    if may && not (watched watches c game) then watches ++ record { by = c; game = game } ∷ [] else watches

-- A connection is told of the table too, the last of all, if it may and is not told.
abbrev pub sit_if : Bool → ℕ → List ℕ → List ℕ
sit_if may c table = if may && not (at_table table c) then table ++ c ∷ [] else table

-- a connection watches a game no more; it watches none; it is told of the table no more
abbrev pub unwatched : ℕ → ℕ → List Watch → List Watch
unwatched c game watches = filter (λ (w : Watch). not (is_watch c game w)) watches

abbrev pub none_watched : ℕ → List Watch → List Watch
none_watched c watches = filter (λ (w : Watch). not (w.by == c)) watches

abbrev pub risen : ℕ → List ℕ → List ℕ
risen c table = filter (λ one. not (one == c)) table

-- Of who watches, and of who is told of the table, those alone who act for a player.
abbrev pub watches_kept : (ℕ → Bool) → List Watch → List Watch
watches_kept acts watches = filter (λ (w : Watch). acts w.by) watches

abbrev pub table_kept : (ℕ → Bool) → List ℕ → List ℕ
table_kept acts table = filter (λ c. acts c) table

-- All who watch a game, and where the table is told all who are told of that, but nobody twice.
abbrev pub followers : List Watch → List ℕ → ℕ → Bool → List ℕ
followers watches table game is_table =
    map (λ (w : Watch). w.by) (filter (λ (w : Watch). w.game == game) watches)
    ++ filter (λ c. is_table && not (watched watches c game)) table
