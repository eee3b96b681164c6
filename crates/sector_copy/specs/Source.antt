-- What is read of sectors that change.
use Rattle.std.specs.Prelude.{ℕ, ◌≡◌, ◌⊎◌, ◌+◌, ◌<◌, ◌≤◌, ◌↔◌, List, Some}
use Rattle.sector_dev.specs.Image.{Sectors}
use Rattle.rec_codec.specs.declared.header.Header.{Header}
use Rattle.sector_layout.specs.Parts.{bytes_at}
use Rattle.sector_layout.specs.Stands.{IsInForce, half_start, free_start}

-- at some moment of these the sector holds these bytes
pub record IsSeen (image : ℕ → Sectors) (from to at : ℕ) (bytes : List ℕ) : Type 0 where
  pub moment : ℕ
  pub later : from ≤ moment
  pub earlier : moment ≤ to
  pub holds : bytes_at (image moment) at ≡ Some bytes

-- at one moment of these the two header slots hold these bytes
pub record AreSlotsSeen (image : ℕ → Sectors) (from to : ℕ) (zero one : List ℕ) : Type 0 where
  pub moment : ℕ
  pub later : from ≤ moment
  pub earlier : moment ≤ to
  pub zero_holds : bytes_at (image moment) 0 ≡ Some zero
  pub one_holds : bytes_at (image moment) 1 ≡ Some one

-- at some moment of these the header is in force
pub record IsSeenInForce (image : ℕ → Sectors) (from to : ℕ) (header : Header) : Type 0 where
  pub moment : ℕ
  pub later : from ≤ moment
  pub earlier : moment ≤ to
  pub in_force : IsInForce (image moment) header

-- Reads go on: the sectors are as many, and what they are at each moment stays; time does not go back.
pub record ReadsOn {S : Type 0} (told : S → Type 0) (image : S → ℕ → Sectors) (moment sector_count : S → ℕ)
    (old new : S)
    : Type 0 where
  pub size : sector_count new ≡ sector_count old
  pub tells : told new ↔ told old
  pub same : told old → image new ≡ image old
  pub later : told old → moment old ≤ moment new

-- From one moment to the next: the header in force stays, or gives way to one of the next number; either way each
-- sector that it names stays as it is.
pub record IsStep (before after : Sectors) : Type 0 where
  pub header : Header
  pub in_force : IsInForce before header
  pub next : Header
  pub comes : IsInForce after next
  pub number : (next ≡ header) ⊎ (next.seq ≡ header.seq + 1)
  pub kept : (k : ℕ) → half_start header ≤ k → k < free_start header → bytes_at after k ≡ bytes_at before k

-- A journal is written: so it goes from each moment to the next.
abbrev pub IsWritten : (ℕ → Sectors) → Type 0
IsWritten image = (t : ℕ) → IsStep (image t) (image (t + 1))
