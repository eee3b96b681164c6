-- What is found beside the turns of a lobby, and told.
use Rattle.std.specs.Prelude.{ℕ, ◌≡◌, Option, None, Some, String}
use Rattle.std.specs.Global.{Global}
use Rattle.lobby_players.specs.declared.halts.Finding.TheVariants as findings
use Rattle.lobby_loop.specs.declared.hall.Hall.{Hall}
use Rattle.lobby_loop.specs.Living.{Finds}
use Rattle.lobby_serving.specs.ByHand.{kept_reason, FoundByHand}
use Rattle.lobby_serving.specs.declared.serving.Beside.{Beside}

-- Where it is found why all clocks are stopped by hand, or that they have to run, that is told, and nothing else
-- happens; where nothing is found nothing does.
abbrev pub TellsFound : {S : Type 0} → Option (String Global) → Hall S → Hall S → Type 0
TellsFound None old new = new ≡ old
TellsFound (Some reason) old new = Finds (findings.Clocks reason) old new

-- A look at a moment, a second before the next: it is told what was found by hand, and nothing else.
pub record LooksAtClocks {R D S : Type 0} (rest : Option ℕ) (old new : Beside R D)
    (hall after : Hall S) : Type 0 where
  pub rested : rest ≡ Some 1000
  pub found : Option (String Global)
  pub by_hand : FoundByHand (kept_reason old.links.clocks) found (kept_reason new.links.clocks)
  pub told : TellsFound found hall after
