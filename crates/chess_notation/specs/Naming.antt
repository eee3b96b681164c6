use Rattle.std.specs.Prelude.{ℕ, ◌⊎◌, List}
use Rattle.chess_board.specs.declared.moves.Move.{Move}
use Rattle.chess_board.specs.Position.{Position}
use Rattle.chess_board.specs.Legal.{IsLegal}
use Rattle.chess_notation.specs.San.{IsBody, IsSan}
use Rattle.chess_notation.specs.Coordinate.{IsCoordinateOf}

-- the text is the SAN of a legal move, or its SAN without the suffix
abbrev pub IsSanOrBody : Position → Move → List ℕ → Type 0
IsSanOrBody p m text = IsSan p m text ⊎ IsBody p m text

-- A text names a legal move where it is the move's SAN, its SAN without the suffix, or its coordinate text.
pub record Names (p : Position) (text : List ℕ) (m : Move) : Type 0 where
  pub legal : IsLegal p m
  pub told : IsSanOrBody p m text ⊎ IsCoordinateOf text m
