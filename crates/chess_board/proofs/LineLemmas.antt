-- One move more of a line.
use Rattle.std.specs.Prelude.{◌≡◌, List, [], ◌∷◌, ◌++◌}
use Rattle.std.proofs.Common.{refl}
use Rattle.chess_board.specs.declared.moves.Move.{Move}
use Rattle.chess_board.specs.Position.{Position}
use Rattle.chess_board.specs.Next.{next}
use Rattle.chess_board.specs.Legal.{IsLegal}
use Rattle.chess_board.specs.Line.{position_after, IsLegalLine}

pub position_after-push : (p : Position) (moves : List Move) (m : Move) →
    position_after p (moves ++ m ∷ []) ≡ next (position_after p moves) m
position_after-push p [] m = refl
position_after-push p (n ∷ moves) m = position_after-push (next p n) moves m

pub IsLegalLine-push : (p : Position) (moves : List Move) (m : Move) → IsLegalLine p moves →
    IsLegal (position_after p moves) m → IsLegalLine p (moves ++ m ∷ [])
IsLegalLine-push p [] m line legal = (legal, tt)
IsLegalLine-push p (n ∷ moves) m line legal = (line.0, IsLegalLine-push (next p n) moves m line.1 legal)
