use Rattle.std.proofs.Common.{length, take}
use Rattle.chess_hub.specs.Session.{IsUnchanged}
use Rattle.chess_hub.specs.Delivery.{HaveRoom}
use Rattle.chess_hub.proofs.sessions.Sessions.reserve.Given as goal

abbrev pub invariant-loop-line : goal.invariant-loop-line
invariant-loop-line l = HaveRoom (length l.lines) l.self.slab (take l.line-index l.lines) × IsUnchanged l.fn.self l.self
