-- The moves of a game as the archive has them.
use Rattle.std.specs.Prelude.{ℕ, ◌/◌, ◌%◌, ◌+◌, Bool, true, false, List, [], ◌∷◌, ◌++◌, codes, decimal, Option, Some}
use Rattle.std.specs.Prelude.{None, if◌then◌else◌}
use Rattle.text_pgn.specs.Pgn.{is_move}

-- two digits of a number below 100
abbrev pub two_digits : ℕ → List ℕ
two_digits n = (48 + n / 10) ∷ (48 + n % 10) ∷ []

-- what a clock shows, as `{[%clk H:MM:SS]}`: the whole seconds of so many milliseconds
unfoldable pub clock_text : ℕ → List ℕ
clock_text ms =
    codes "{[%clk " ++ (decimal (ms / 3600000) ++ (codes ":"
    ++ (two_digits (ms / 60000 % 60) ++ (codes ":" ++ (two_digits (ms / 1000 % 60) ++ codes "]}")))))

-- a comment is one token, so that no line ends in it
abbrev pub clock_tokens : Option ℕ → List (List ℕ)
clock_tokens None = []
clock_tokens (Some ms) = clock_text ms ∷ []

-- the clock after the next move, and the clocks after the moves behind it
abbrev pub first_clock : List (Option ℕ) → Option ℕ
first_clock [] = None
first_clock (clock ∷ clocks) = clock

abbrev pub next_clocks : List (Option ℕ) → List (Option ℕ)
next_clocks [] = []
next_clocks (clock ∷ clocks) = clocks

abbrev pub is_known : Option ℕ → Bool
is_known None = false
is_known (Some ms) = true

-- a move of Black's behind a comment has its number again, as `12...` (PGN Standard, section 8.2.2.2)
abbrev pub again_tokens : Bool → List ℕ → List (List ℕ)
again_tokens true number = (number ++ codes "..") ∷ []
again_tokens false number = []

-- a move with what its player's clock showed behind it, where that is known
abbrev pub move_tokens : Bool → List ℕ → List ℕ → Option ℕ → List (List ℕ)
move_tokens again number token clock = again_tokens again number ++ (token ∷ clock_tokens clock)

-- The tokens with the clocks between them. Told are the number that came last, and whether a comment stands behind the
-- move before.
abbrev pub told_tokens : List ℕ → Bool → List (List ℕ) → List (Option ℕ) → List (List ℕ)
told_tokens number again [] clocks = []
told_tokens number again (token ∷ tokens) clocks =
    if is_move token
    then move_tokens again number token (first_clock clocks)
    ++ told_tokens number (is_known (first_clock clocks)) tokens (next_clocks clocks)
    else token ∷ told_tokens token false tokens clocks
