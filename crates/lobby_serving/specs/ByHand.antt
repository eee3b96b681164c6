-- Why all clocks are stopped by hand.
use Rattle.std.specs.Prelude.{ℕ, ◌≡◌, List, Option, None, Some, String}
use Rattle.std.specs.Global.{Global}
use Rattle.std.specs.String.{string_bytes}
use Rattle.lobby_players.specs.declared.stop_file.StopFile.{StopFile}
use Rattle.lobby_players.specs.Stopping.{IsFound}

-- the reason that is kept, where one can be
abbrev pub kept_reason : {R : Type 0} → Option (StopFile R) → Option (List ℕ)
kept_reason None = None
kept_reason (Some file) = Some (string_bytes file.reason)

-- What is found, with the reason that was kept before and the one that is from then on: nothing where none can be.
abbrev pub FoundByHand : Option (List ℕ) → Option (String Global) → Option (List ℕ) → Type 0
FoundByHand None found after = (found ≡ None) × (after ≡ None)
FoundByHand (Some before) found None = ⊥
FoundByHand (Some before) found (Some after) = IsFound before found after
