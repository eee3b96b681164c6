-- One more is admitted or turned away, or none.
use Rattle.std.proofs.Common.{[], ◌∷◌, refl}
use Rattle.lobby_loop.proofs.listener.welcome.Goals as goal
use Rattle.lobby_loop.proofs.listener.welcome.Goals.{in-Ok, in-Err-Lost}

pub loop-init : goal.loop-init
loop-init g c = ([], tt, refl)

pub loop-preserved : goal.loop-preserved
loop-preserved g c =
    elim c.match-accept_one.branch [
      | in-Ok w ↦ rw w.hall-is (
        w.take_in.ensures.0 ∷ c.loop.invariant.0,
        (w.take_in.ensures.1, c.loop.invariant.1),
        (c.loop.hall, c.loop.invariant.2, w.take_in.ensures.2),
      )
      | in-Err-Lost w ↦ rw w.hall-is c.loop.invariant
    ]
