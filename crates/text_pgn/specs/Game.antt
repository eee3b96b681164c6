-- What is read of a game's PGN: the start, and the words that name its moves.
use Rattle.std.specs.Prelude.{ℕ, ◌≡◌, ◌<◌, Bool, ◌==◌, List, [], ◌∷◌, codes, Option, Some, None, find}
use Rattle.std.specs.List.{before_first, after_first}
use Rattle.std.specs.Str.{bytes_eq}
use Rattle.std.specs.Option.{option_map}
use Rattle.text_parts.specs.Parts.{parts_of}
use Rattle.text_parts.specs.Signs.{line_feed, quote}
use Rattle.text_pgn.specs.Pgn.{tokens_of, moves_in}
use Rattle.chess_board.specs.declared.moves.Move.{Move}
use Rattle.chess_board.specs.Position.{Position, IsValid}
use Rattle.chess_board.specs.Initial.{initial}
use Rattle.chess_board.specs.Next.{next}
use Rattle.chess_notation.specs.Letters.{space}
use Rattle.chess_notation.specs.Naming.{Names}
use Rattle.chess_notation.specs.Fen.{IsFenOf}

abbrev pub lines_of : List ℕ → List (List ℕ)
lines_of text = parts_of line_feed text

-- the line `[FEN ".."]`
abbrev pub is_fen_tag : List ℕ → Bool
is_fen_tag line = bytes_eq (before_first (λ b. b == space) line) (codes "[FEN")

-- its value, between the quotes
abbrev pub value_of : List ℕ → List ℕ
value_of line = before_first (λ b. b == quote) (after_first (λ b. b == quote) line)

abbrev pub fen_in : List (List ℕ) → Option (List ℕ)
fen_in lines = option_map value_of (find is_fen_tag lines)

-- The game starts in the position of the first tag FEN, and where there is none in the initial one (PGN Standard,
-- section 9.7).
abbrev pub StartsAt : Option (List ℕ) → Position → Type 0
StartsAt None p = p ≡ initial
StartsAt (Some fen) p = IsValid p × IsFenOf fen p

-- the word names this move, and both counters have room for it
pub record Plays (p : Position) (word : List ℕ) (m : Move) : Type 0 where
  pub named : Names p word m
  pub halfmove : p.halfmove < 65535
  pub fullmove : p.fullmove < 65535

-- The words name these moves, one after another from a position on, each by the Laws.
abbrev pub ArePlayed : Position → List (List ℕ) → List Move → Type 0
ArePlayed p [] [] = Unit {0}
ArePlayed p [] (m ∷ ms) = ⊥
ArePlayed p (word ∷ words) [] = ⊥
ArePlayed p (word ∷ words) (m ∷ ms) = Plays p word m × ArePlayed (next p m) words ms

-- the words of the text that may name moves
abbrev pub words_in : List ℕ → List (List ℕ)
words_in text = moves_in (tokens_of (lines_of text))

-- the text tells this game
pub record TellsGame (text : List ℕ) (start : Position) (moves : List Move) : Type 0 where
  pub begun : StartsAt (fen_in (lines_of text)) start
  pub played : ArePlayed start (words_in text) moves

-- it has no valid start
abbrev pub NoStart : List ℕ → Type 0
NoStart text = (p : Position) → ¬ StartsAt (fen_in (lines_of text)) p

-- it tells no game
abbrev pub TellsNone : List ℕ → Type 0
TellsNone text = (start : Position) → (moves : List Move) → ¬ TellsGame text start moves
