-- The legal moves of a position, as one line.
use Rattle.std.specs.Prelude.{ℕ, ◌≡◌, ◌↔◌, Bool, true, false, IsTrue, List, [], ◌∷◌, ◌++◌, Option, Some, None, codes}
use Rattle.std.specs.List.{AllZip}
use Rattle.chess_bits.specs.declared.men.Kind.{Kind}
use Rattle.chess_bits.specs.declared.men.Colour.TheVariants.{Black}
use Rattle.chess_bits.specs.Square.{IsOnBoard}
use Rattle.chess_board.specs.declared.moves.Move.{Move}
use Rattle.chess_board.specs.Position.{Position, IsInCheck}
use Rattle.chess_moves.specs.Moves.{IsListOfLegalMoves}
use Rattle.chess_notation.specs.Name.{square_name, capital_of}
use Rattle.chess_notation.specs.Coordinate.{IsCoordinateOf}
use Rattle.chess_notation.specs.Letters.{cased}

-- texts with a space before each
abbrev pub spaced : List (List ℕ) → List ℕ
spaced [] = []
spaced (text ∷ texts) = codes " " ++ (text ++ spaced texts)

-- `+` for check, and else `-`
abbrev pub check_sign : Bool → List ℕ
check_sign true = codes "+"
check_sign false = codes "-"

-- The line tells whether the side to move is in check, and behind that the legal moves of the position, each once and
-- no other, by their coordinate texts.
pub record TellsMoves (line : List ℕ) (p : Position) : Type 0 where
  pub check : Bool
  pub is_check : IsTrue check ↔ IsInCheck p.placement p.side
  pub moves : List Move
  pub exact : IsListOfLegalMoves p moves
  pub texts : List (List ℕ)
  pub named : AllZip IsCoordinateOf texts moves
  pub spelled : line ≡ codes "moves " ++ (check_sign check ++ spaced texts)

-- the letter of what a pawn becomes; the letters of a pawn and a king stand in no coordinate text
abbrev pub small_letter : Kind → ℕ
small_letter kind = cased Black (capital_of kind)

abbrev pub promotion_letter : Option Kind → List ℕ
promotion_letter None = []
promotion_letter (Some kind) = small_letter kind ∷ []

-- the one coordinate text that a move can have
abbrev pub coordinate_of : Move → List ℕ
coordinate_of m = square_name m.from ++ (square_name m.to ++ promotion_letter m.promotion)

pub record IsBetweenSquares (m : Move) : Type 0 where
  pub from : IsOnBoard m.from
  pub to : IsOnBoard m.to
