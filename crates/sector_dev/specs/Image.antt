-- What a crash may leave of a device's sectors.
use Rattle.std.specs.Prelude.{◌≡◌, ◌⊎◌, ◌<◌, ◌+◌, ◌==◌, ℕ, List, [], ◌∷◌, ◌++◌, length, map, slice_index_or, slice_set}
use Rattle.std.specs.Prelude.{if◌then◌else◌, refl}
use Rattle.sector_dev.specs.declared.device.Sector.{Sector}
use Rattle.sector_dev.specs.declared.device.Sector.TheVariants.{Bytes, Unreadable}

-- the content of each sector of a device, by its number
abbrev pub Sectors : Type 0
Sectors = List Sector

-- the content of the sector with this number
abbrev pub sector_at : Sectors → ℕ → Sector
sector_at sectors at = slice_index_or sectors at Unreadable

-- a write that may still be lost: the number of its sector, and the bytes for it
pub record Write : Type 0 where
  pub sector : ℕ
  pub value : List ℕ

-- what a pending write of these bytes may leave in its sector
abbrev pub MayBecome : List ℕ → Sector → Type 0
MayBecome value sector = (sector ≡ Bytes value) ⊎ (sector ≡ Unreadable)

-- some of these writes is to the sector with that number and may leave this in it
abbrev pub IsWritten : List Write → ℕ → Sector → Type 0
IsWritten [] at sector = ⊥
IsWritten (w ∷ ws) at sector = ((w.sector ≡ at) × MayBecome w.value sector) ⊎ IsWritten ws at sector

-- Each sector has its stable value or, where a write to it is pending, the value of some such write, or is unreadable,
-- whatever the others have.
pub record Image (stable : Sectors) (pending : List Write) (image : Sectors) : Type 0 where
  pub size : length image ≡ length stable
  pub each : (at : ℕ) → at < length stable
      → (sector_at image at ≡ sector_at stable at) ⊎ IsWritten pending at (sector_at image at)

-- the sectors after these writes, each over the one before it
abbrev pub applied : Sectors → List Write → Sectors
applied stable [] = stable
applied stable (w ∷ ws) = applied (slice_set stable w.sector (Bytes w.value)) ws

-- what a crash may leave in the sector with this number: its stable value, then what each write to it may leave
abbrev pub values : ℕ → Sector → List Write → List Sector
values at stable [] = stable ∷ []
values at stable (w ∷ ws) =
    if w.sector == at then Bytes w.value ∷ Unreadable ∷ values at stable ws else values at stable ws

-- each value before each rest
abbrev pub each_before : List Sector → List Sectors → List Sectors
each_before [] rests = []
each_before (value ∷ rest_of_values) rests = map (λ rest. value ∷ rest) rests ++ each_before rest_of_values rests

-- every image of these sectors, of which the first has the number `at`, one after the other; that these are just the
-- images is `images_exact` in proofs/ImageList.antt
abbrev pub images : ℕ → Sectors → List Write → List Sectors
images at [] pending = [] ∷ []
images at (stable ∷ rest) pending = each_before (values at stable pending) (images (at + 1) rest pending)

-- for the examples: a sector of this one byte, and a write of it
abbrev pub of : ℕ → Sector
of byte = Bytes (byte ∷ [])

abbrev pub put : ℕ → ℕ → Write
put at byte = record { sector = at; value = byte ∷ [] }

-- two stable sectors; two pending writes to the first and one to the second
abbrev pub two_sectors : Sectors
two_sectors = of 10 ∷ of 20 ∷ []

abbrev pub three_writes : List Write
three_writes = put 0 11 ∷ put 1 21 ∷ put 0 12 ∷ []

-- one write: the sector is as it was, has the value, or is unreadable, and the other is as it was
one_write : images 0 two_sectors (put 1 21 ∷ [])
    ≡ (of 10 ∷ of 21 ∷ []) ∷ (of 10 ∷ Unreadable ∷ []) ∷ (of 10 ∷ of 20 ∷ []) ∷ []
one_write = refl

-- a sector that is unreadable already may stay so, or have the value
over_unreadable : images 0 (Unreadable ∷ []) (put 0 11 ∷ [])
    ≡ (of 11 ∷ []) ∷ (Unreadable ∷ []) ∷ (Unreadable ∷ []) ∷ []
over_unreadable = refl

-- nothing pending: the stable values alone, also where one is unreadable
nothing_pending : images 0 (Unreadable ∷ two_sectors) [] ≡ (Unreadable ∷ two_sectors) ∷ []
nothing_pending = refl

-- what reads give is the last write to each sector
last_write_read : applied two_sectors three_writes ≡ of 12 ∷ of 21 ∷ []
last_write_read = refl

-- a write makes an unreadable sector readable
written_again : applied (of 10 ∷ Unreadable ∷ []) (put 1 21 ∷ []) ≡ of 10 ∷ of 21 ∷ []
written_again = refl

-- two pending writes to the first sector, one to the second: five ways and three, one of them unreadable twice
fifteen_ways : length (images 0 two_sectors three_writes) ≡ 15
fifteen_ways = refl

-- what a write to the other sector may leave is nothing that a crash leaves in this one
other_sector : values 1 (of 20) (put 0 11 ∷ []) ≡ of 20 ∷ []
other_sector = refl
