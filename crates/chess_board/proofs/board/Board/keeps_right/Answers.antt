use Rattle.std.proofs.Common.{refl}
use Rattle.chess_board.proofs.board.Board.keeps_right.Goals as goal

pub returns : goal.returns
returns c =
    rw (
      c.allows.ensures,
      c.touches-king_touched.ensures,
      c.touches-rook_touched.ensures,
      c.king_home.ensures,
      c.rook_home.ensures,
      ← c.self.view_is,
    ) refl
