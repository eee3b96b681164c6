-- How long a game has gone without a capture or a pawn move.
use Rattle.std.specs.Prelude.{ℕ, List, [], ◌∷◌}
use Rattle.chess_board.specs.Position.{Position}

-- The halfmove clock of the last position of a list (FIDE articles 9.3 and 9.6.2). A list without a position has none,
-- and then it is 0.
abbrev pub quiet_run : List Position → ℕ
quiet_run [] = 0
quiet_run (p ∷ []) = p.halfmove
quiet_run (p ∷ q ∷ rest) = quiet_run (q ∷ rest)
