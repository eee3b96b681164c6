-- The acts that the server refused, of each game since it accepted one there.
use Rattle.std.specs.Prelude.{ℕ, ◌&&◌, ◌==◌, ◌+◌, Bool, true, false, not, List, [], ◌∷◌, ◌++◌, filter}
use Rattle.std.specs.Prelude.{Option, None, Some, if◌then◌else◌}
use Rattle.server_answers.specs.declared.refusals.Refusal.{Refusal}
use Rattle.server_answers.specs.declared.refusals.Refusal.TheVariants as server_refusals
use Rattle.server_answers.specs.Refusals.{refusal_in}
use Rattle.lobby_words.specs.Words.{word_of, rest_of, line_said, is_pair, u32_in}
use Rattle.lobby_words.specs.Answers.{act_game, first_line, is_entered, is_table_act}
use Rattle.lobby_table.specs.declared.refusals.RefusedActs.{RefusedActs}

-- Whether a refusal is of who plays in the game: its number is 5 to 24. By those below the line has no form, no name
-- was said, there is no such game, or who asks does not play in it. 23, which says that the clock is past all moments,
-- is said before these are looked at.
abbrev pub is_of_seated : Option Refusal → Bool
is_of_seated None = false
is_of_seated (Some server_refusals.BadLine) = false
is_of_seated (Some server_refusals.NoName) = false
is_of_seated (Some server_refusals.NoGame) = false
is_of_seated (Some server_refusals.NotSeated) = false
is_of_seated (Some _) = true

abbrev pub is_refusal : List ℕ → Bool
is_refusal answer = is_of_seated (refusal_in (first_line answer))

-- The game that a message names; a pairing names two players.
abbrev pub game_named : List ℕ → Option ℕ
game_named text = if is_pair text then None else u32_in (word_of (rest_of (line_said text)))

-- The game in which an answer refuses an act of who plays in it. An `open`, a `join`, a `drop` and a pairing are no
-- acts of who plays.
abbrev pub refused_game : List ℕ → List ℕ → Option ℕ
refused_game text answer = if is_refusal answer && not (is_table_act text) then game_named text else None

-- how many were refused in a game
abbrev pub count_in : ℕ → List RefusedActs → ℕ
count_in game [] = 0
count_in game (r ∷ refused) = if r.game == game then r.count else count_in game refused

abbrev pub count_of : Option ℕ → List RefusedActs → ℕ
count_of None refused = 0
count_of (Some game) refused = count_in game refused

-- none in a game any more, and one more
abbrev pub without : ℕ → List RefusedActs → List RefusedActs
without game refused = filter (λ (r : RefusedActs). not (r.game == game)) refused

abbrev pub cleared : Option ℕ → List RefusedActs → List RefusedActs
cleared None refused = refused
cleared (Some game) refused = without game refused

abbrev pub one_more : Option ℕ → List RefusedActs → List RefusedActs
one_more None refused = refused
one_more (Some game) refused = without game refused ++ record { game = game; count = count_in game refused + 1 } ∷ []

-- The acts that were refused, behind the answer to one more.
abbrev pub refused_told : List ℕ → List ℕ → List RefusedActs → List RefusedActs
refused_told text answer refused =
    if is_entered answer then cleared (act_game answer) refused else one_more (refused_game text answer) refused
