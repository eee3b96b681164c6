-- A game's line in the archive, which is an object of JSON.
use Rattle.std.specs.Prelude.{ℕ, Bool, false, ◌==◌, ◌||◌, ◌&&◌, not, nat_le, List, ◌++◌, codes, decimal, Option, Some}
use Rattle.std.specs.Prelude.{None, drop, if◌then◌else◌}
use Rattle.std.specs.List.{list_all, before_first, after_first}
use Rattle.std.specs.Str.{bytes_eq}
use Rattle.text_parts.specs.Signs.{line_feed, comma, colon}
use Rattle.text_parts.specs.Strings.{escaped, unescaped_from}
use Rattle.lobby_words.specs.Words.{u32_in}

abbrev pub front : List ℕ
front = codes "{\"game\""

abbrev pub middle : List ℕ
middle = codes ",\"pgn\":\""

-- `{"game":7,"pgn":".."}`
abbrev pub line_of : ℕ → List ℕ → List ℕ
line_of game pgn = front ++ (codes ":" ++ (decimal game ++ (middle ++ (escaped pgn ++ codes "\"}"))))

-- a line feed, or no control character of ASCII: these alone have an escape here, or need none in JSON
abbrev pub is_text_byte : ℕ → Bool
is_text_byte b = b == line_feed || nat_le 32 b && not (b == 127)

abbrev pub is_text : List ℕ → Bool
is_text pgn = list_all is_text_byte pgn

abbrev pub before_comma : List ℕ → List ℕ
before_comma text = before_first (λ b. b == comma) text

-- the number behind the front of a line, whatever stands behind it
abbrev pub number_at : List ℕ → Option ℕ
number_at line =
    if bytes_eq (before_first (λ b. b == colon) line) front
    then u32_in (before_comma (after_first (λ b. b == colon) line))
    else None

abbrev pub behind_comma : List ℕ → List ℕ
behind_comma line = after_first (λ b. b == comma) line

-- all but `"pgn":"`
abbrev pub behind_name : List ℕ → List ℕ
behind_name text = drop 7 text

-- the PGN in a line
abbrev pub pgn_in : List ℕ → List ℕ
pgn_in line = unescaped_from false (behind_name (behind_comma line))

-- whether a line is the one that is made for a game with the PGN in it
abbrev pub is_line_of : List ℕ → ℕ → Bool
is_line_of line game = is_text (pgn_in line) && bytes_eq (line_of game (pgn_in line)) line

abbrev pub if_spelled : List ℕ → Option ℕ → Option ℕ
if_spelled line None = None
if_spelled line (Some game) = if is_line_of line game then Some game else None

-- the game of a line, which is spelled as it would be made; none where it is no game's
abbrev pub game_in : List ℕ → Option ℕ
game_in line = if_spelled line (number_at line)
