use Rattle.std.proofs.Common.{◌≡◌, ◌≤◌, true, take}
use Rattle.std.specs.String.{string_bytes}
use Rattle.chess_board.specs.Line.{position_after}
use Rattle.chess_text.specs.Game.{AddsMoves}
use Rattle.chess_text.proofs.GameLemmas.{is_first_after}
use Rattle.chess_text.proofs.game.push_moves.Given as goal

-- the moves so far are written
abbrev pub invariant-loop-mv : goal.invariant-loop-mv
invariant-loop-mv l = record {
  at : l.board ≡ position_after l.fn.start (take l.mv-index l.moves);
  first : l.is_first ≡ is_first_after true (take l.mv-index l.moves);
  added : AddsMoves l.fn.start (take l.mv-index l.moves) (string_bytes l.fn.text) (string_bytes l.text) l.width;
  width : l.width ≤ 79;
}
