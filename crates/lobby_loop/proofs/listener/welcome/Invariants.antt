-- Those so far are admitted or turned away.
use Rattle.std.proofs.Common.{List}
use Rattle.lobby_loop.specs.Turning.{Comer, AreFrom, AreAdmitted}
use Rattle.lobby_loop.proofs.listener.welcome.Given as goal

abbrev pub invariant-loop : goal.invariant-loop
invariant-loop g l = (comers : List (Comer _)) × AreFrom g.A.Acceptor.is_from comers × AreAdmitted l.at comers l.fn.hall l.hall
