use Rattle.std.proofs.Common.{◌≡◌, take}
use Rattle.chess_board.specs.Line.{position_after, IsLegalLine}
use Rattle.chess_mates.proofs.lines.is_mating_line.Given as goal

-- the moves so far are legal
abbrev pub invariant-loop-mv : goal.invariant-loop-mv
invariant-loop-mv l = record {
  at : l.at ≡ position_after l.fn.board (take l.mv-index l.moves);
  legal : IsLegalLine l.fn.board (take l.mv-index l.moves);
}
