use Rattle.std.proofs.Common.{◌≤◌, take, vec_len}
use Rattle.chess_hub.specs.Turn.{AreTurnLines, rounds, waiting_of}
use Rattle.chess_hub.proofs.sessions.Sessions.next_lines.Given as goal

abbrev pub invariant-loop-place : goal.invariant-loop-place
invariant-loop-place l =
    (vec_len l.turn ≤ l.most)
    × AreTurnLines (take l.most (rounds l.place (waiting_of l.self))) l.turn.items
