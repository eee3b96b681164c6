use Rattle.chess_mates.proofs.Inside.{never_inside}
use Rattle.chess_mates.proofs.deciding.none_in.Goals as goal

pub returns : goal.returns
returns c = (
  never_inside c.args.side c.boards-boards.result.now c.args.board.now (c.is_closed.ensures c.if-not-is_closed.false)
      (c.has_like.ensures c.if-not-has_like.false),
  tt,
)
