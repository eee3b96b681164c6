-- The text in a string of JSON, for texts in UTF-8 without control characters but line feeds. Of a text that was not so
-- made nothing is known: another escape is read as its letter, and a string that no quote ends is read whole.
use Rattle.std.specs.Prelude.{ℕ, Bool, true, false, ◌||◌, ◌==◌, List, [], ◌∷◌, flat_map, if◌then◌else◌}
use Rattle.text_parts.specs.Signs.{line_feed, quote}

-- what stands before a byte that has an escape, and the letter in that of a line feed
abbrev pub backslash : ℕ
backslash = 92

abbrev pub letter_n : ℕ
letter_n = 110

-- a byte in a string: a line feed is `\n`, a quote and a backslash have a backslash before them
abbrev pub escaped_byte : ℕ → List ℕ
escaped_byte b =
    if b == line_feed then backslash ∷ letter_n ∷ []
    else (if b == quote || b == backslash then backslash ∷ b ∷ [] else b ∷ [])

abbrev pub escaped : List ℕ → List ℕ
escaped text = flat_map escaped_byte text

abbrev pub plain_byte : ℕ → ℕ
plain_byte b = if b == letter_n then line_feed else b

-- A text whose escapes are taken back, up to the first quote that has none; behind a backslash or not.
abbrev pub unescaped_from : Bool → List ℕ → List ℕ
unescaped_from is_behind [] = []
unescaped_from true (b ∷ rest) = plain_byte b ∷ unescaped_from false rest
unescaped_from false (b ∷ rest) =
    if b == quote then [] else (if b == backslash then unescaped_from true rest else b ∷ unescaped_from false rest)

-- what stands behind that quote
abbrev pub behind_from : Bool → List ℕ → List ℕ
behind_from is_behind [] = []
behind_from true (b ∷ rest) = behind_from false rest
behind_from false (b ∷ rest) = if b == quote then rest else behind_from (b == backslash) rest
