-- A readable sector has 512 bytes.
use Rattle.std.specs.Prelude.{◌≡◌, ◌<◌, ℕ, List, length, All}
use Rattle.sector_dev.specs.declared.device.Sector.TheVariants.{Bytes}
use Rattle.sector_dev.specs.Image.{Sectors, sector_at, Write}

-- 512 bytes
pub record IsWhole (bytes : List ℕ) : Type 0 where
  pub count : length bytes ≡ 512
  pub range : All (λ byte. byte < 256) bytes

-- each sector that is readable has 512 bytes
abbrev pub AreWhole : Sectors → Type 0
AreWhole sectors = (at : ℕ) (bytes : List ℕ) → sector_at sectors at ≡ Bytes bytes → IsWhole bytes

-- each of the writes is of 512 bytes
abbrev pub AreWholeWrites : List Write → Type 0
AreWholeWrites writes = All (λ w. IsWhole w.value) writes
