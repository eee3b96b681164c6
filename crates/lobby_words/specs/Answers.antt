-- What the answers of the server say, by the forms that `server_answers` reads.
use Rattle.std.specs.Prelude.{ℕ, ◌≡◌, ◌-◌, ◌==◌, ◌||◌, Bool, true, false, List, [], ◌∷◌, ◌++◌, codes}
use Rattle.std.specs.Prelude.{Option, Some, None, is_some, option_map, if◌then◌else◌}
use Rattle.std.specs.List.{before_first}
use Rattle.std.specs.Str.{bytes_eq}
use Rattle.std.specs.String.{string_bytes}
use Rattle.std.specs.declared.string.String.{String}
use Rattle.server_answers.specs.declared.games.Shown.{Shown}
use Rattle.server_answers.specs.declared.refusals.Refusal.{Refusal}
use Rattle.server_answers.specs.declared.refusals.Refusal.TheVariants as server_refusals
use Rattle.server_answers.specs.Entered.{Entered, end_of, entered_in}
use Rattle.server_answers.specs.Games.{shown_in}
use Rattle.server_answers.specs.Heads.{lines_behind, pgn_in, fen_in}
use Rattle.server_answers.specs.Refusals.{refusal_in}
use Rattle.lobby_words.specs.declared.coming.Coming.{Coming}
use Rattle.lobby_words.specs.Words.{word_of, line_said, u32_in}

-- How many lines of an answer are still to come behind a line, where so many were to come before it; 0 where none had
-- come.
abbrev pub left_after : ℕ → List ℕ → ℕ
left_after left line = if left == 0 then lines_behind line else left - 1

-- a line with the line feed that ends it
abbrev pub ended : List ℕ → List ℕ
ended line = line ++ 10 ∷ []

-- whether a line ends an answer where so many lines were still to come, and the answer behind these lines
abbrev pub is_whole : ℕ → List ℕ → Bool
is_whole left line = left_after left line == 0

abbrev pub answer : List ℕ → List ℕ → List ℕ
answer begun line = begun ++ ended line

-- a line of an answer is taken: the whole answer is given where it was the last
abbrev pub IsTaken : {A : Type 0} → Coming → List ℕ → Option (String A) → Coming → Type 0
IsTaken old line None new =
    (is_whole old.left line ≡ false) × (string_bytes new.text ≡ answer (string_bytes old.text) line)
IsTaken old line (Some text) new =
    (is_whole old.left line ≡ true) × (string_bytes text ≡ answer (string_bytes old.text) line)
    × (string_bytes new.text ≡ [])

-- what stands before the first line feed
abbrev pub first_line : List ℕ → List ℕ
first_line answer = before_first (λ b. b == 10) answer

-- Of an act that was entered, as its answer tells: the game in which it was done, and whether that is over with it.
abbrev pub act_game : List ℕ → Option ℕ
act_game answer = option_map (λ (e : Entered). e.game) (entered_in (first_line answer))

abbrev pub is_entered : List ℕ → Bool
is_entered answer = is_some (entered_in (first_line answer))

abbrev pub has_end : Option Entered → Bool
has_end None = false
has_end (Some entered) = is_some (end_of entered.done)

abbrev pub tells_end : List ℕ → Bool
tells_end answer = has_end (entered_in (first_line answer))

-- whether an answer tells how a game stands, its position, or its PGN
abbrev pub is_shown : List ℕ → Bool
is_shown answer = is_some (shown_in (first_line answer))

abbrev pub is_position : List ℕ → Bool
is_position answer = is_some (fen_in (first_line answer))

abbrev pub is_pgn : List ℕ → Bool
is_pgn answer = is_some (pgn_in (first_line answer))

-- Whether a game goes on no more, as the answer to `show` tells: it is shown and has ended, or there is no such game
-- (any more). Any other refusal says nothing of it.
abbrev pub has_ended : Option Shown → Bool
has_ended None = false
has_ended (Some shown) = is_some shown.ending

abbrev pub is_gone : Option Refusal → Bool
is_gone (Some server_refusals.NoGame) = true
is_gone _ = false

abbrev pub is_over : List ℕ → Bool
is_over answer = has_ended (shown_in (first_line answer)) || is_gone (refusal_in (first_line answer))

-- who has one of two seats, where the other is empty
abbrev pub alone : (white black : Option (List ℕ)) → Option (List ℕ)
alone None black = black
alone (Some white) None = Some white
alone (Some white) (Some black) = None

-- The player who waits for a second one in the game of this number, as the answer to `show` tells.
abbrev pub alone_in : Shown → Option ℕ → Option (List ℕ)
alone_in shown None = None
alone_in shown (Some game) = if shown.game == game then alone shown.seats.white shown.seats.black else None

abbrev pub alone_at : Option Shown → Option ℕ → Option (List ℕ)
alone_at None game = None
alone_at (Some shown) game = alone_in shown game

abbrev pub lone_player : List ℕ → List ℕ → Option (List ℕ)
lone_player answer number = alone_at (shown_in (first_line answer)) (u32_in number)

-- whether those who are told of the table are told of an act whatever comes of it
abbrev pub is_table_act : List ℕ → Bool
is_table_act text =
    bytes_eq (word_of (line_said text)) (codes "open") || bytes_eq (word_of (line_said text)) (codes "join")
    || bytes_eq (word_of (line_said text)) (codes "drop") || bytes_eq (word_of (line_said text)) (codes "pair")
