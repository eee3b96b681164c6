use Rattle.std.specs.Vec.Iter.{into_iter_items}
use Rattle.chess_hub.proofs.DeliveryLemmas.{Answering}
use Rattle.chess_hub.proofs.sessions.Sessions.deliver.Given as goal

abbrev pub invariant-loop-line : goal.invariant-loop-line
invariant-loop-line l =
    Answering l.at l.lines l.line-index l.fn.replies.items (into_iter_items l.left) l.fn.self l.self
