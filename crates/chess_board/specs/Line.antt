use Rattle.std.specs.Prelude.{List, [], ◌∷◌}
use Rattle.chess_board.specs.declared.moves.Move.{Move}
use Rattle.chess_board.specs.Position.{Position}
use Rattle.chess_board.specs.Next.{next}
use Rattle.chess_board.specs.Legal.{IsLegal}

-- the positions that a start and moves give, the start first
abbrev pub positions_of : Position → List Move → List Position
positions_of start [] = start ∷ []
positions_of start (m ∷ ms) = start ∷ positions_of (next start m) ms

-- the position after moves from a start: the last of their line
abbrev pub position_after : Position → List Move → Position
position_after start [] = start
position_after start (m ∷ moves) = position_after (next start m) moves

-- Each move is legal at its place. A line is one of valid positions where its start is valid and the counters stay in
-- range.
abbrev pub IsLegalLine : Position → List Move → Type 0
IsLegalLine start [] = Unit {0}
IsLegalLine start (m ∷ ms) = IsLegal start m × IsLegalLine (next start m) ms
