-- Sectors of which some are changed.
use Rattle.std.specs.Prelude.{◌+◌, ℕ, List, [], ◌∷◌}
use Rattle.sector_dev.specs.Image.{Sectors, Write}
use Rattle.sector_dev.specs.Device.{OldOrChanged}

-- these sectors, the one as it was, written or unreadable, and then the other so
abbrev pub OldOrEither : Sectors → ℕ → List ℕ → ℕ → List ℕ → Sectors → Type 0
OldOrEither old at value also_at also c = (d : Sectors) × OldOrChanged old at value d × OldOrChanged d also_at also c

-- the writes of these values, one after the other, from the sector with this number on
abbrev pub writes_from : ℕ → List (List ℕ) → List Write
writes_from at [] = []
writes_from at (value ∷ values) = record { sector = at; value = value } ∷ writes_from (at + 1) values
