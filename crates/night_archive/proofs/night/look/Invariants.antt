use Rattle.std.proofs.Common.{take}
use Rattle.night_archive.specs.Clerk.{view}
use Rattle.night_archive.specs.Night.{IsTold, AreSettled, AreAll, AreDone, AreSettledOf}
use Rattle.night_archive.proofs.night.look.Given as goal

abbrev pub invariant-loop-game : goal.invariant-loop-game
invariant-loop-game g l =
    IsTold (view l.clerk) (g.N.Night.is_safe l.night) (g.N.Night.is_matched l.night)
    × AreDone (g.N.Night.is_safe l.night) (g.N.Night.has_left l.night) (take l.game-index l.over)
    × AreAll (g.N.Night.is_over l.night) l.over
    × AreSettled (view l.clerk) (g.N.Night.drops_games l.night) (g.N.Night.is_settled l.night)
    × AreSettledOf (g.N.Night.drops_games l.night) (g.N.Night.is_settled l.night) (g.N.Night.has_left l.night) (take l.game-index l.over)
