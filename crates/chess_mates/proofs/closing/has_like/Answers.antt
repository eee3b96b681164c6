use Rattle.std.specs.Prelude.{ℕ, ◌≡◌, ◌<◌, List, length}
use Rattle.std.proofs.Common.{arith, sym, get_or}
use Rattle.chess_board.specs.Position.{Position}
use Rattle.chess_san.specs.Boards.{DiffersInCounters}
use Rattle.chess_mates.specs.Closed.{HasLike}
use Rattle.chess_mates.proofs.closing.has_like.Goals as goal

found_at : (list : List Position) (i : ℕ) (q p : Position) → q ≡ get_or list i q → DiffersInCounters q p →
    i < length list → HasLike list p
found_at list i q p is differs below = record { like = q; among = (i, below, sym is); differs = differs }

pub returns : goal.returns
returns c told =
    found_at c.args.boards.now _ c.index-boards-at.result c.args.board.now c.index-boards-at.is (c.is_like.ensures told)
    (omega arith)
