-- What may be made a journal.
use Rattle.std.specs.Prelude.{ℕ, ◌≡◌, ◌<◌, All}
use Rattle.sector_dev.specs.declared.device.Sector.{Sector}
use Rattle.sector_dev.specs.declared.device.Sector.TheVariants.{Bytes, Unreadable}
use Rattle.sector_dev.specs.Image.{Sectors, sector_at}

-- a sector that can be read, and whose bytes are zeros
abbrev pub IsBlank : Sector → Type 0
IsBlank (Bytes bytes) = All (λ b. b ≡ 0) bytes
IsBlank Unreadable = ⊥

-- of so many sectors this one, if it is there, is blank
abbrev pub IsBlankAt : Sectors → ℕ → ℕ → Type 0
IsBlankAt sectors count at = at < count → IsBlank (sector_at sectors at)
