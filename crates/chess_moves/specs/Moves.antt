use Rattle.std.specs.Prelude.{ℕ, ◌≡◌, ◌≢◌, ◌↔◌, List, length, Contains}
use Rattle.std.specs.List.{AllPairs}
use Rattle.chess_bits.specs.Square.{Square}
use Rattle.chess_board.specs.declared.moves.Move.{Move}
use Rattle.chess_board.specs.Position.{Position}
use Rattle.chess_board.specs.Legal.{IsLegal}

-- exactly the legal moves of a position, none of them twice
pub record IsListOfLegalMoves (p : Position) (moves : List Move) : Type 0 where
  pub exact : (m : Move) → Contains moves m ↔ IsLegal p m
  pub distinct : AllPairs (λ a b. a ≢ b) moves

-- the side to move has a legal move
abbrev pub HasLegal : Position → Type 0
HasLegal p = (m : Move) × IsLegal p m

-- the man on a square has one
abbrev pub HasLegalFrom : Position → Square → Type 0
HasLegalFrom p from = (m : Move) × (m.from ≡ from) × IsLegal p m

-- how many legal moves there are: the length of a list of exactly these
pub record IsNumberOfLegalMoves (p : Position) (n : ℕ) : Type 0 where
  pub moves : List Move
  pub listed : IsListOfLegalMoves p moves
  pub number : length moves ≡ n
