-- The PGN of a game as the archive has it.
use Rattle.std.specs.Prelude.{ℕ, ◌≡◌, Bool, false, List, [], ◌∷◌, ◌++◌, Option}
use Rattle.text_parts.specs.Parts.{parts_of}
use Rattle.chess_text.specs.Movetext.{are_tokens, IsMovetext}
use Rattle.text_pgn.specs.declared.heading.Heading.{Heading}
use Rattle.text_pgn.specs.Tags.{told_tags}
use Rattle.text_pgn.specs.Pgn.{tokens_of}
use Rattle.text_pgn.specs.Moves.{told_tokens}

-- the moves of a text and the result, with the clocks
abbrev pub archive_tokens : List ℕ → List (Option ℕ) → List (List ℕ)
archive_tokens pgn clocks = told_tokens [] false (tokens_of (parts_of 10 pgn)) clocks

-- there is a token, and each fits into a line
abbrev pub is_laid : List (List ℕ) → Bool
is_laid [] = false
is_laid (token ∷ tokens) = are_tokens (token ∷ tokens)

-- The tags of lines in their order, an empty line, tokens in lines of at most 79 characters that each take as many as
-- fit, an empty line (PGN Standard, section 8).
pub record IsLaidOut (h : Heading) (lines : List (List ℕ)) (tokens : List (List ℕ)) (text : List ℕ) : Type 0 where
  pub movetext : List ℕ
  pub is_movetext : IsMovetext movetext tokens
  pub joined : text ≡ told_tags h lines ++ (10 ∷ (movetext ++ (10 ∷ [])))

-- the same of the server's PGN and the clocks
abbrev pub IsArchived : Heading → List ℕ → List (Option ℕ) → List ℕ → Type 0
IsArchived h pgn clocks text = IsLaidOut h (parts_of 10 pgn) (archive_tokens pgn clocks) text
