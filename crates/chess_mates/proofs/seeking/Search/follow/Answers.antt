use Rattle.std.proofs.Common.{sym}
use Rattle.std.specs.Prelude.{Contains}
use Rattle.chess_mates.proofs.seeking.Search.follow.Goals as goal

pub apply-requires-clause-legal : goal.apply-requires-clause-legal
apply-requires-clause-legal c =
    let here : Contains c.as_slice-mv-items.result.now c.mv-item.result =
    (c.loop-mv.mv-index, c.loop-mv-test.true, sym c.mv-item.is) in
    (c.legal_moves-moves.ensures.exact c.mv-item.result).0 (rw c.as_slice-mv-items.ensures.value at here)
