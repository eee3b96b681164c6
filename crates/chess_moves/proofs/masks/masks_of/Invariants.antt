use Rattle.chess_moves.specs.Masks.{HoldsMasksBelow}
use Rattle.chess_moves.proofs.masks.masks_of.Given as goal

-- the ways so far are watched
abbrev pub invariant-loop-way : goal.invariant-loop-way
invariant-loop-way l = HoldsMasksBelow l.board l.way l.masks
