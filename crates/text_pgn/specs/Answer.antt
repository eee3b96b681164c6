-- The answer to `line G`.
use Rattle.std.specs.Prelude.{ℕ, suc, ◌≡◌, List, [], ◌∷◌, ◌++◌, length, codes, decimal}
use Rattle.chess_board.specs.declared.moves.Move.{Move}
use Rattle.chess_board.specs.Position.{Position}
use Rattle.chess_board.specs.Next.{next}
use Rattle.chess_notation.specs.San.{IsSan}
use Rattle.chess_notation.specs.Fen.{fen_of}
use Rattle.text_pgn.specs.Telling.{coordinate_of}

-- `N SAN MOVE FEN`: after how many moves, the last of them as SAN and by its squares, and the position
abbrev pub row : ℕ → List ℕ → List ℕ → Position → List ℕ
row n san move p = decimal n ++ (codes " " ++ (san ++ (codes " " ++ (move ++ (codes " " ++ (fen_of p ++ codes "\n"))))))

-- the texts are the SAN of these moves, each in its position
abbrev pub AreSans : Position → List Move → List (List ℕ) → Type 0
AreSans p [] [] = Unit {0}
AreSans p [] (san ∷ sans) = ⊥
AreSans p (m ∷ ms) [] = ⊥
AreSans p (m ∷ ms) (san ∷ sans) = IsSan p m san × AreSans (next p m) ms sans

-- a row for each move, with the position that it brings; the first has this number
abbrev pub rows : ℕ → Position → List Move → List (List ℕ) → List ℕ
rows n p (m ∷ ms) (san ∷ sans) = row n san (coordinate_of m) (next p m) ++ rows (suc n) (next p m) ms sans
rows n p _ _ = []

-- the rows of moves from a start on
pub record AreRows (start : Position) (moves : List Move) (text : List ℕ) : Type 0 where
  pub sans : List (List ℕ)
  pub are : AreSans start moves sans
  pub spelled : text ≡ rows 1 start moves sans

-- `ok line G K` and the row of the start, which stand in front
abbrev pub head : ℕ → ℕ → Position → List ℕ
head game count start =
    codes "ok line " ++ (decimal game ++ (codes " " ++ (decimal count ++ (codes "\n" ++
    row 0 (codes "-") (codes "-") start))))

-- `ok line G K`, the row of the start, and the K rows of the moves
pub record IsLineAnswer (game : ℕ) (start : Position) (moves : List Move) (text : List ℕ) : Type 0 where
  pub behind : List ℕ
  pub are : AreRows start moves behind
  pub spelled : text ≡ codes "ok line " ++ (decimal game ++ (codes " " ++ (decimal (length moves) ++
      (codes "\n" ++ (row 0 (codes "-") (codes "-") start ++ behind)))))

-- the new text is the old one with the row of a move
pub record PutsRow (number : ℕ) (before : Position) (m : Move) (after : Position) (old new : List ℕ) : Type 0 where
  pub san : List ℕ
  pub is_san : IsSan before m san
  pub put : new ≡ old ++ row number san (coordinate_of m) after

-- the new text is the old one with the rows of moves
pub record PutsRows (start : Position) (moves : List Move) (old new : List ℕ) : Type 0 where
  pub behind : List ℕ
  pub are : AreRows start moves behind
  pub put : new ≡ old ++ behind
