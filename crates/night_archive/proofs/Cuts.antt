-- A line that was made is read as it was meant, and no other line is read so.
use Rattle.std.proofs.Common.{ℕ, ◌≡◌, ◌<◌, ◌^◌, Bool, true, false, ◌&&◌, List, [], ◌∷◌, ◌++◌, drop, Option, Some, None, decimal, refl, sym, ap, ◌∙◌, arith}
use Rattle.std.specs.Prelude.{if◌then◌else◌}
use Rattle.std.specs.Str.{bytes_eq}
use Rattle.std.proofs.lemmas.Bool.{and_from, and_parts}
use Rattle.std.proofs.lemmas.Option.{none-some, cond_some}
use Rattle.std.proofs.lemmas.Slice.Eq.{bytes_eq-Decides}
use Rattle.text_parts.proofs.Cuts.{before_at, after_at}
use Rattle.text_parts.proofs.Digits.{lacks_below}
use Rattle.text_parts.specs.Strings.{escaped, unescaped_from}
use Rattle.text_parts.proofs.Texts.{back}
use Rattle.lobby_words.specs.Words.{u32_in}
use Rattle.lobby_words.proofs.Numbers.{number_spelled}
use Rattle.night_archive.specs.Line.{front, line_of, is_text, number_at, pgn_in, is_line_of, if_spelled, game_in}

-- what is behind the first comma of a line
abbrev tail_of : List ℕ → List ℕ
tail_of pgn = 34 ∷ 112 ∷ 103 ∷ 110 ∷ 34 ∷ 58 ∷ 34 ∷ (escaped pgn ++ (34 ∷ 125 ∷ []))

number_read : (game : ℕ) (pgn : List ℕ) → game < 2 ^ 32 → number_at (line_of game pgn) ≡ Some game
number_read game pgn small =
    ap u32_in (before_at 44 (decimal game) (tail_of pgn) (lacks_below 44 game (omega arith) (omega arith))) ∙ number_spelled game small

pub pgn_read : (game : ℕ) (pgn : List ℕ) → game < 2 ^ 32 → pgn_in (line_of game pgn) ≡ pgn
pgn_read game pgn small =
    ap (λ text. unescaped_from false (drop 7 text))
    (after_at 44 (front ++ (58 ∷ decimal game)) (tail_of pgn) (lacks_below 44 game (omega arith) (omega arith)))
    ∙ back pgn (125 ∷ [])

is_made : (game : ℕ) (pgn : List ℕ) → game < 2 ^ 32 → is_text pgn ≡ true → is_line_of (line_of game pgn) game ≡ true
is_made game pgn small h =
    ap (λ xs. is_text xs && bytes_eq (line_of game xs) (line_of game pgn)) (pgn_read game pgn small)
    ∙ and_from (is_text pgn) (bytes_eq (line_of game pgn) (line_of game pgn)) h
    ((bytes_eq-Decides (line_of game pgn) (line_of game pgn)).1 refl)

pub game_read : (game : ℕ) (pgn : List ℕ) → game < 2 ^ 32 → is_text pgn ≡ true → game_in (line_of game pgn) ≡ Some game
game_read game pgn small h =
    ap (if_spelled (line_of game pgn)) (number_read game pgn small)
    ∙ ap (λ (b : Bool). if b then Some game else None) (is_made game pgn small h)

-- a game that is found is spelled so
found : (line : List ℕ) (o : Option ℕ) (game : ℕ) → if_spelled line o ≡ Some game → is_line_of line game ≡ true
found line None game h = absurd (none-some game h)
found line (Some m) game h =
    let is = cond_some (is_line_of line m) m game h in
    ap (is_line_of line) (sym is.1) ∙ is.0

pub only : (game : ℕ) (line : List ℕ) → game_in line ≡ Some game → line ≡ line_of game (pgn_in line)
only game line h =
    sym ((bytes_eq-Decides (line_of game (pgn_in line)) line).0
    (and_parts (is_text (pgn_in line)) (bytes_eq (line_of game (pgn_in line)) line) (found line (number_at line) game h)).1)

pub only_text : (game : ℕ) (line : List ℕ) → game_in line ≡ Some game → is_text (pgn_in line) ≡ true
only_text game line h =
    (and_parts (is_text (pgn_in line)) (bytes_eq (line_of game (pgn_in line)) line) (found line (number_at line) game h)).0
