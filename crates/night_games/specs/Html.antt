-- Texts in a page of HTML.
use Rattle.std.specs.Prelude.{ℕ, ◌==◌, Bool, true, ◌&&◌, ◌||◌, List, [], ◌∷◌, ◌++◌, codes, length, flat_map}
use Rattle.std.specs.Prelude.{if◌then◌else◌}
use Rattle.std.specs.List.{starts_with}
use Rattle.text_parts.specs.Signs.{quote}

-- the signs by which markup begins and ends, in a page's text and in the quotes of an attribute
abbrev pub ampersand : ℕ
ampersand = 38

abbrev pub apostrophe : ℕ
apostrophe = 39

abbrev pub less : ℕ
less = 60

abbrev pub greater : ℕ
greater = 62

-- each of them is written as a character reference, and any other byte as it is
abbrev pub escaped_byte : ℕ → List ℕ
escaped_byte b =
    if b == ampersand then codes "&amp;"
    else (if b == less then codes "&lt;"
    else (if b == greater then codes "&gt;"
    else (if b == quote then codes "&quot;"
    else (if b == apostrophe then codes "&#39;" else b ∷ []))))

abbrev pub escaped : List ℕ → List ℕ
escaped text = flat_map escaped_byte text

-- a sign that opens or closes a tag, or ends an attribute's quotes
abbrev pub is_markup : ℕ → Bool
is_markup b = b == less || (b == greater || (b == quote || b == apostrophe))

-- behind an ampersand stands the rest of one of these references
abbrev pub ends_reference : List ℕ → Bool
ends_reference rest =
    starts_with (λ a b. a == b) rest (codes "amp;") || (starts_with (λ a b. a == b) rest (codes "lt;")
    || (starts_with (λ a b. a == b) rest (codes "gt;") || (starts_with (λ a b. a == b) rest (codes "quot;")
    || starts_with (λ a b. a == b) rest (codes "#39;"))))

-- each ampersand begins one
abbrev pub has_references : List ℕ → Bool
has_references [] = true
has_references (b ∷ rest) = (if b == ampersand then ends_reference rest else true) && has_references rest

-- ---- rows of a table

-- a line of its own takes all columns
abbrev pub cell_front : (is_line : Bool) → List ℕ
cell_front is_line = if is_line then codes "<td colspan=\"7\">" else codes "<td>"

abbrev pub cell : (is_line : Bool) → List ℕ → List ℕ
cell is_line text = cell_front is_line ++ (escaped text ++ codes "</td>")

abbrev pub row : List (List ℕ) → List ℕ
row texts = codes "<tr>" ++ (flat_map (cell (length texts == 1)) texts ++ codes "</tr>\n")

abbrev pub rows : List (List (List ℕ)) → List ℕ
rows all = flat_map row all
