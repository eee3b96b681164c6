-- The version stands in the line just where it stands in the rest.
use Rattle.std.proofs.Common.{◌↔◌, length}
use Rattle.chess_sockets.specs.Protocols.{IsRequest}
use Rattle.chess_sockets.proofs.incoming.is_request.Given as goal

abbrev pub invariant-loop-after : goal.invariant-loop-after
invariant-loop-after l = IsRequest l.line ↔ IsRequest l.rest

abbrev pub decreases-loop-after : goal.decreases-loop-after
decreases-loop-after l = length l.rest
