use Rattle.std.proofs.Common.{refl}
use Rattle.chess_board.specs.Next.{placement_after}
use Rattle.chess_board.proofs.board.Board.men_after.Goals as goal

pub returns : goal.returns
unfolding placement_after
returns c =
    rw (
      c.bring_rook-2.ensures,
      c.bring_rook.ensures,
      c.set-2.ensures,
      c.became.ensures,
      c.take_passed_pawn.ensures,
      c.set.ensures,
      ← c.self.view_is,
    ) refl
