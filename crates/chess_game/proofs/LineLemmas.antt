-- One move more of a line.
use Rattle.std.proofs.Common.{◌≡◌, ◌+◌, ◌≤◌, List, [], ◌∷◌, ◌++◌, length, refl, ap, arith}
use Rattle.chess_board.specs.declared.moves.Move.{Move}
use Rattle.chess_board.specs.Position.{Position}
use Rattle.chess_board.specs.Next.{next}
use Rattle.chess_board.specs.Line.{positions_of}
use Rattle.chess_board.proofs.ValidNext.{halfmove_after-le, fullmove_after-within}
pub use Rattle.chess_board.proofs.LineLemmas.{position_after-push, IsLegalLine-push}
use Rattle.chess_repeat.specs.QuietRun.{quiet_run}
use Rattle.chess_entry.specs.State.{position_after}

pub positions_of-push : (p : Position) (moves : List Move) (m : Move)
    → positions_of p (moves ++ m ∷ []) ≡ positions_of p moves ++ next (position_after p moves) m ∷ []
positions_of-push p [] m = refl
positions_of-push p (n ∷ moves) m = ap (λ (ps : List Position). p ∷ ps) (positions_of-push (next p n) moves m)

pub length-positions_of : (p : Position) (moves : List Move) → length (positions_of p moves) ≡ length moves + 1
length-positions_of p [] = refl
length-positions_of p (n ∷ moves) = let rest = length-positions_of (next p n) moves in omega arith

pub quiet_run-positions_of : (p : Position) (moves : List Move)
    → quiet_run (positions_of p moves) ≡ (position_after p moves).halfmove
quiet_run-positions_of p [] = refl
quiet_run-positions_of p (n ∷ []) = refl
quiet_run-positions_of p (n ∷ m ∷ moves) = quiet_run-positions_of (next p n) (m ∷ moves)

pub halfmove-at_most : (p : Position) (moves : List Move)
    → (position_after p moves).halfmove ≤ p.halfmove + length moves
halfmove-at_most p [] = omega arith
halfmove-at_most p (m ∷ moves) =
    let one = halfmove_after-le p m in
    let rest = halfmove-at_most (next p m) moves in
    omega arith

pub fullmove-at_most : (p : Position) (moves : List Move)
    → (position_after p moves).fullmove ≤ p.fullmove + length moves
fullmove-at_most p [] = omega arith
fullmove-at_most p (m ∷ moves) =
    let one = (fullmove_after-within p.side p.fullmove).1 in
    let rest = fullmove-at_most (next p m) moves in
    omega arith
