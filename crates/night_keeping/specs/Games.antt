-- Which games a keeper speaks of.
use Rattle.std.specs.Prelude.{ℕ, Bool, false, ◌==◌, List, map, filter, Option, Some, None, is_some}
use Rattle.server_answers.specs.declared.games.Row.{Row}

-- the games of the server's list that are over, in its order
abbrev pub games_over_in : List Row → List ℕ
games_over_in rows = map (λ (row : Row). row.game) (filter (λ (row : Row). is_some row.result) rows)

-- whether a game is this one
abbrev pub is_at : ℕ → Option ℕ → Bool
is_at game (Some one) = one == game
is_at game None = false
