-- So many bytes of the text were written.
use Rattle.std.proofs.Common.{◌≤◌, length, take}
use Rattle.std.specs.Io.KnownBytes.{Appends}
use Rattle.chess_sockets.proofs.outgoing.send.Given as goal

abbrev pub invariant-loop : goal.invariant-loop
invariant-loop g l = (l.count ≤ length l.text) × Appends (g.W.Write.contents l.fn.writer) (g.W.Write.contents l.writer)
    (take l.count l.text)
