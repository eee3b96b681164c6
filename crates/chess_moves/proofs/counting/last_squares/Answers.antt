use Rattle.chess_moves.proofs.LastSquares.{white_last, black_last}
use Rattle.chess_moves.proofs.counting.last_squares.Goals as goal

pub returns-in-White : goal.returns-in-White
returns-in-White c = rw (c.in-White.is, c.from_word.ensures) white_last

pub returns-in-Black : goal.returns-in-Black
returns-in-Black c = rw (c.in-Black.is, c.from_word-in-Black.ensures) black_last
