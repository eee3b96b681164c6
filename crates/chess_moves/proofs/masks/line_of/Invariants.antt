use Rattle.chess_bits.specs.Table.{IsSetOf}
use Rattle.chess_moves.specs.Masks.{KeepsBelow}
use Rattle.chess_moves.proofs.masks.line_of.Given as goal

-- the line of the pins in the ways so far
abbrev pub invariant-loop-way : goal.invariant-loop-way
invariant-loop-way l = IsSetOf l.line (KeepsBelow l.board l.masks.king l.from l.way)
