-- Messages as browsers get them.
use Rattle.std.specs.Prelude.{ℕ, ◌≡◌, ◌==◌, List, [], ◌∷◌, ◌++◌, length, codes, decimal, ◌<◌, ◌^◌, if◌then◌else◌}
use Rattle.std.specs.List.{after_first, before_first}
use Rattle.chess_board.specs.declared.moves.Move.{Move}
use Rattle.chess_board.specs.Position.{Position, IsValid}
use Rattle.chess_notation.specs.Fen.{IsFenOf}
use Rattle.text_lines.specs.Lines.{is_feed}
use Rattle.lobby_words.specs.Words.{word_of, rest_of}
use Rattle.lobby_words.specs.Plans.{refusal_text}
use Rattle.lobby_words.specs.declared.refusals.Refusal.TheVariants.{BadLine}
use Rattle.text_pgn.specs.Telling.{TellsMoves}
use Rattle.text_pgn.specs.Game.{TellsGame}
use Rattle.text_pgn.specs.Answer.{IsLineAnswer}
use Rattle.lobby_desk.specs.declared.telling.Kind.{Kind}
use Rattle.lobby_desk.specs.declared.telling.Kind.TheVariants.{Whole, Position as AtPosition, Line, Moves, Log}

-- what stands behind the first line of a text
abbrev pub lines_behind : List ℕ → List ℕ
lines_behind text = after_first is_feed text

-- The last line of a text, without its line feed. Only where no line stands behind the first one is that the last.
unfoldable pub last_line : List ℕ → List ℕ
last_line [] = []
last_line (b ∷ bs) =
    if length (lines_behind (b ∷ bs)) == 0
    then before_first is_feed (b ∷ bs)
    else last_line bs

-- the FEN of a text that ends with `ok fen G FEN`
abbrev pub fen_in : List ℕ → List ℕ
fen_in text = rest_of (rest_of (rest_of (last_line text)))

-- The text ends with the position of this FEN, and the line of its legal moves stands behind it; where the FEN is none,
-- the text is as it was.
pub record IsWithMoves (text new : List ℕ) : Type 0 where
  pub told : (p : Position) → IsValid p → IsFenOf (fen_in text) p →
      (moves : List ℕ) × TellsMoves moves p × (new ≡ text ++ moves ++ 10 ∷ [])
  pub none : ((p : Position) → IsValid p → IsFenOf (fen_in text) p → ⊥) → new ≡ text

-- The text is `moves FEN`: instead of it the legal moves of the position of this FEN, in the line that tells them,
-- behind `ok`; and where the FEN is none, that the message has no form.
pub record IsOfMoves (text new : List ℕ) : Type 0 where
  pub told : (p : Position) → IsValid p → IsFenOf (rest_of text) p →
      (moves : List ℕ) × TellsMoves moves p × (new ≡ codes "ok " ++ moves ++ 10 ∷ [])
  pub none : ((p : Position) → IsValid p → IsFenOf (rest_of text) p → ⊥) → new ≡ refusal_text BadLine

-- The text is `ok pgn G K` and the lines of a PGN: instead of it the positions of the game that this tells, or `lost`
-- where it tells none.
pub record IsOfLine (text new : List ℕ) : Type 0 where
  pub told : (game : ℕ) (start : Position) (moves : List Move) → game < 2 ^ 32 →
      word_of (rest_of (rest_of text)) ≡ decimal game → TellsGame (lines_behind text) start moves →
      IsLineAnswer game start moves new
  pub none : ((start : Position) (moves : List Move) → TellsGame (lines_behind text) start moves → ⊥)
      → new ≡ codes "lost\n"

-- a text of this kind, as it goes out
abbrev pub IsFinished : Kind → List ℕ → List ℕ → Type 0
IsFinished Whole text new = new ≡ text
IsFinished AtPosition text new = IsWithMoves text new
IsFinished Line text new = ∥ IsOfLine text new ∥₁
IsFinished Moves text new = IsOfMoves text new
IsFinished Log text new = new ≡ text

-- A text of this kind, as far as it is made: the answer to `line G` may not be there yet, and then the text is as it
-- was.
abbrev pub IsMade : Kind → List ℕ → Kind → List ℕ → Type 0
IsMade kind text Line new = (kind ≡ Line) × (new ≡ text)
IsMade kind text Whole new = IsFinished kind text new
IsMade kind text AtPosition new = IsFinished kind text new
IsMade kind text Moves new = IsFinished kind text new
IsMade kind text Log new = IsFinished kind text new
