-- What an input calls for.
use Rattle.std.specs.Prelude.{ℕ, ◌≡◌, ◌<◌, Bool, true, List, ◌++◌, Option, Result, Ok, Err, length}
use Rattle.std.specs.Io.KnownBytes.{Appends, Consumes}
use Rattle.chess_board.specs.Position.{Position}
use Rattle.chess_board.specs.Initial.{initial}
use Rattle.text_lines.specs.Texts.{IsText}
use Rattle.server_words.specs.BoardAnswer.{IsAnswer}
use Rattle.server_words.specs.declared.board_loop.BoardFault.{BoardFault}
use Rattle.server_words.specs.declared.board_loop.BoardFault.TheVariants.{Read, Write}

-- what the input calls for: the answers to its lines, each at the position that the line before left, from the initial
-- position on, and then the farewell to a line that is too long
pub record IsBoardText (input text : List ℕ) : Type 0 where
  pub end : Position
  pub is : IsText IsAnswer initial input text end

-- the known bytes grew by the text that the input calls for
abbrev pub AppendsText : Option (List ℕ) → Option (List ℕ) → List ℕ → Type 0
AppendsText old new input = (text : List ℕ) × IsBoardText input text × Appends old new text

-- the known bytes grew by a front of that text
abbrev pub AppendsFront : Option (List ℕ) → Option (List ℕ) → List ℕ → Type 0
AppendsFront old new input = (front : List ℕ) × (rest : List ℕ) × IsBoardText input
    (front ++ rest) × Appends old new front

-- some bytes were taken from the reader, and their text was written
abbrev pub AnswersTaken : Option (List ℕ) → Option (List ℕ) → Option (List ℕ) → Option (List ℕ) → Type 0
AnswersTaken before after old new = (taken : List ℕ) × Consumes before after taken × AppendsText old new taken

-- some bytes were taken from the reader, and a front of their text was written, but not all of it
abbrev pub AnswersInPart : Option (List ℕ) → Option (List ℕ) → Option (List ℕ) → Option (List ℕ) → Type 0
AnswersInPart before after old new = (taken : List ℕ) × (front : List ℕ) × (rest : List ℕ)
    × Consumes before after taken × IsBoardText taken (front ++ rest) × (0 < length rest) × Appends old new front

-- `Read` comes exactly where the reader failed; `before` and `after` say whether it has.
abbrev pub BoardIsOfSource : Result (Unit {0}) BoardFault → Bool → Bool → Type 0
BoardIsOfSource (Ok done) before after = after ≡ before
BoardIsOfSource (Err Read) before after = after ≡ true
BoardIsOfSource (Err Write) before after = after ≡ before
