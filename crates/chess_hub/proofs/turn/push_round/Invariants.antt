use Rattle.std.proofs.Common.{◌≤◌, vec_len}
use Rattle.chess_hub.specs.Turn.{waiting_in}
use Rattle.chess_hub.proofs.TurnLineLemmas.{InRound, waiting_from}
use Rattle.chess_hub.proofs.turn.push_round.Given as goal

abbrev pub invariant-loop-sid : goal.invariant-loop-sid
invariant-loop-sid l =
    (vec_len l.turn ≤ l.most)
    × InRound l.most l.place (waiting_in l.slab) (waiting_from l.slab l.sid) l.fn.turn.items l.turn.items
