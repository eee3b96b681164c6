use Rattle.std.proofs.Common.{◌≡◌, take}
use Rattle.chess_board.specs.Line.{position_after, IsLegalLine}
use Rattle.chess_text.specs.Game.{HasRoom}
use Rattle.chess_text.proofs.game.is_playable.Given as goal

-- the moves so far can be played
abbrev pub invariant-loop-mv : goal.invariant-loop-mv
invariant-loop-mv l = record {
  at : l.board ≡ position_after l.fn.start (take l.mv-index l.moves);
  legal : IsLegalLine l.fn.start (take l.mv-index l.moves);
  room : HasRoom l.fn.start (take l.mv-index l.moves);
}
