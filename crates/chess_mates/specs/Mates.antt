use Rattle.std.specs.Prelude.{◌≡◌, List}
use Rattle.chess_bits.specs.declared.men.Colour.{Colour}
use Rattle.chess_bits.specs.Man.{other}
use Rattle.chess_board.specs.declared.moves.Move.{Move}
use Rattle.chess_board.specs.Position.{Position}
use Rattle.chess_board.specs.Line.{position_after, IsLegalLine}
use Rattle.chess_end.specs.Ending.{IsCheckmate}

-- the side has given checkmate: its opponent is to move, and is checkmated (FIDE article 5.1.1)
pub record IsMatedBy (side : Colour) (p : Position) : Type 0 where
  pub turn : p.side ≡ other side
  pub mate : IsCheckmate p

-- legal moves of both sides, one after the other, at whose end the side has given checkmate
pub record IsMatingLine (side : Colour) (p : Position) (moves : List Move) : Type 0 where
  pub legal : IsLegalLine p moves
  pub mated : IsMatedBy side (position_after p moves)

-- The side can checkmate by some series of legal moves (FIDE articles 5.2.2 and 6.9). The series may be of any length:
-- neither the repetition of a position nor a count of moves ends it.
pub record CanMate (side : Colour) (p : Position) : Type 0 where
  pub moves : List Move
  pub line : IsMatingLine side p moves
