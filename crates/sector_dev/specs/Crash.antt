-- What a crash leaves that gives each pending write its fate.
use Rattle.std.specs.Prelude.{◌≡◌, ◌↔◌, List, [], ◌∷◌, Bool, true, false, map, slice_set, if◌then◌else◌, refl}
use Rattle.sector_dev.specs.declared.device.Sector.TheVariants.{Bytes, Unreadable}
use Rattle.sector_dev.specs.declared.device.Fate.{Fate}
use Rattle.sector_dev.specs.declared.device.Fate.TheVariants.{Lost, Kept, Unreadable as Ruined}
use Rattle.sector_dev.specs.Image.{Sectors, Write, Image, applied, two_sectors, three_writes, of}
use Rattle.sector_dev.specs.Device.{State}

-- The images are those of these stable values and pending writes, and reads give the last write to each sector, or its
-- stable value where none is pending.
pub record IsOfDisk (stable : Sectors) (pending : List Write) (now : State) : Type 0 where
  pub images : (c : Sectors) → now.image c ↔ Image stable pending c
  pub reads : now.reads ≡ applied stable pending

-- the sectors after these writes met these fates, the first of them first: a lost write changes nothing, and of the
-- others the last one to a sector decides what is left in it; a missing fate is `Lost`
abbrev pub left_by : Sectors → List Write → List Fate → Sectors
left_by stable [] fates = stable
left_by stable (w ∷ ws) [] = stable
left_by stable (w ∷ ws) (Lost ∷ fates) = left_by stable ws fates
left_by stable (w ∷ ws) (Kept ∷ fates) = left_by (slice_set stable w.sector (Bytes w.value)) ws fates
left_by stable (w ∷ ws) (Ruined ∷ fates) = left_by (slice_set stable w.sector Unreadable) ws fates

-- a write is kept or lost
abbrev pub kept_or_lost : Bool → Fate
kept_or_lost keep = if keep then Kept else Lost

-- those of the writes are kept whose place is true
abbrev pub fates_of : List Bool → List Fate
fates_of keep = map kept_or_lost keep

-- of two kept writes to one sector the last one stands
last_stands : left_by two_sectors three_writes (fates_of (true ∷ false ∷ true ∷ [])) ≡ of 12 ∷ of 20 ∷ []
last_stands = refl

-- the first of them alone
first_kept : left_by two_sectors three_writes (Kept ∷ Kept ∷ Lost ∷ []) ≡ of 11 ∷ of 21 ∷ []
first_kept = refl

-- the last that is not lost decides, whether it is kept or makes the sector unreadable
last_decides : left_by two_sectors three_writes (Kept ∷ Lost ∷ Ruined ∷ []) ≡ Unreadable ∷ of 20 ∷ []
last_decides = refl

last_kept : left_by two_sectors three_writes (Ruined ∷ Ruined ∷ Kept ∷ []) ≡ of 12 ∷ Unreadable ∷ []
last_kept = refl

last_lost : left_by two_sectors three_writes (Ruined ∷ Lost ∷ Lost ∷ []) ≡ Unreadable ∷ of 20 ∷ []
last_lost = refl

-- a missing place is lost, and a place too many says nothing
missing_is_lost : left_by two_sectors three_writes (Lost ∷ Ruined ∷ []) ≡ of 10 ∷ Unreadable ∷ []
missing_is_lost = refl

too_many : left_by two_sectors three_writes (Lost ∷ Lost ∷ Kept ∷ Ruined ∷ Kept ∷ []) ≡ of 12 ∷ of 20 ∷ []
too_many = refl

-- with no fates the stable values are left
none_kept : left_by two_sectors three_writes [] ≡ two_sectors
none_kept = refl
