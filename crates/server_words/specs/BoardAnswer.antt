-- What a line is answered, and which position it leaves.
use Rattle.std.specs.Prelude.{ℕ, ◌≡◌, ◌⊎◌, List, [], ◌∷◌, ◌++◌, codes}
use Rattle.chess_board.specs.declared.moves.Move.{Move}
use Rattle.chess_board.specs.Position.{Position}
use Rattle.chess_board.specs.Next.{next}
use Rattle.chess_board.specs.Legal.{IsLegal}
use Rattle.chess_notation.specs.Coordinate.{IsCoordinateOf}
use Rattle.chess_notation.specs.Fen.{IsFenOf}
use Rattle.server_words.specs.BoardLine.{AsksMove}

-- a text and its line feed
abbrev pub as_line : List ℕ → List ℕ
as_line text = text ++ 10 ∷ []

-- the coordinate text of a legal move
pub record IsMoveText (p : Position) (text : List ℕ) (m : Move) : Type 0 where
  pub legal : IsLegal p m
  pub coordinate : IsCoordinateOf text m

-- a counter has its greatest value, and no move can follow
abbrev pub IsAtLimit : Position → Type 0
IsAtLimit p = (p.halfmove ≡ 65535) ⊎ (p.fullmove ≡ 65535)

-- the text of a legal move: it is made, and the new position shown
pub record MakesMove (before : Position) (text answer : List ℕ) (after : Position) : Type 0 where
  pub move : Move
  pub is_text : IsMoveText before text move
  pub room : ¬ IsAtLimit before
  pub goes : after ≡ next before move
  pub fen : List ℕ
  pub is_fen : IsFenOf fen after
  pub says : answer ≡ as_line fen

-- the text of a legal move where a counter has its greatest value: the position stays
pub record StopsAtLimit (before : Position) (text answer : List ℕ) (after : Position) : Type 0 where
  pub move : Move
  pub is_text : IsMoveText before text move
  pub limit : IsAtLimit before
  pub says : answer ≡ as_line (codes "no 20 TooLong")
  pub stays : after ≡ before

-- another text: the position stays
pub record RefusesMove (before : Position) (text answer : List ℕ) (after : Position) : Type 0 where
  pub illegal : (m : Move) → ¬ IsMoveText before text m
  pub says : answer ≡ as_line (codes "no 9 BadMove")
  pub stays : after ≡ before

-- the answer to the text of a move
abbrev pub AnswersText : Position → List ℕ → List ℕ → Position → Type 0
AnswersText before text answer after =
    MakesMove before text answer after ⊎ StopsAtLimit before text answer after ⊎ RefusesMove before text answer after

-- a line that asks for a move is answered by that move's text
pub record AnswersMove (before : Position) (line answer : List ℕ) (after : Position) : Type 0 where
  pub text : List ℕ
  pub asks : AsksMove line text
  pub way : AnswersText before text answer after

-- a line that asks for no move: the position stays
pub record RefusesLine (before : Position) (line answer : List ℕ) (after : Position) : Type 0 where
  pub bad : (text : List ℕ) → ¬ AsksMove line text
  pub says : answer ≡ as_line (codes "no 1 BadLine")
  pub stays : after ≡ before

abbrev pub IsAnswer : Position → List ℕ → List ℕ → Position → Type 0
IsAnswer before line answer after = AnswersMove before line answer after ⊎ RefusesLine before line answer after
