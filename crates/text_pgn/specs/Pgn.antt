-- Which lines of a game's PGN are tags, the words of the others, and which of these are moves.
use Rattle.std.specs.Prelude.{ℕ, Bool, ◌==◌, List, [], slice_index, filter, flat_map, if◌then◌else◌}
use Rattle.std.specs.Char.{is_ascii_alphabetic}
use Rattle.text_parts.specs.Parts.{parts_of}

-- a tag's line begins with `[` (PGN Standard, section 8.1.1)
abbrev pub is_tag : List ℕ → Bool
is_tag line = slice_index line 0 == 91

-- a move begins with a letter; the number of a move, and the result, do not (PGN Standard, section 8.2)
abbrev pub is_move : List ℕ → Bool
is_move word = is_ascii_alphabetic (slice_index word 0)

-- the tokens of the lines that are no tags
abbrev pub tokens_of_line : List ℕ → List (List ℕ)
tokens_of_line line = if is_tag line then [] else parts_of 32 line

abbrev pub tokens_of : List (List ℕ) → List (List ℕ)
tokens_of lines = flat_map tokens_of_line lines

-- the moves among tokens, in their order
abbrev pub moves_in : List (List ℕ) → List (List ℕ)
moves_in tokens = filter is_move tokens
