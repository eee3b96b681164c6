-- What `create` does and answers.
use Rattle.std.specs.Prelude.{ℕ, ◌≡◌, ◌⊎◌, ◌<◌, slice_set, Err}
use Rattle.sector_dev.specs.declared.device.Sector.TheVariants.{Unreadable}
use Rattle.sector_dev.specs.Image.{Sectors}
use Rattle.rec_codec.specs.declared.limits.Limits.{Limits}
use Rattle.rec_codec.specs.Limits.{need}
use Rattle.sector_journal.specs.declared.fault.JournalFault.TheVariants as journal
use Rattle.sector_journal.specs.Stands.{IsOurs, Stands}
use Rattle.chess_entry.specs.Table.{empty_table}
use Rattle.chess_store.specs.declared.fault.StoreFault.{StoreFault}
use Rattle.chess_store.specs.declared.fault.StoreFault.TheVariants.{Exists, TooSmall, Device}
use Rattle.chess_store.specs.Means.{Means}

-- What a crash may leave of these sectors while a store is created: what they were; and, only where no header slot
-- starts with the eight bytes, what means the empty table, or the same sectors with sector 1 unreadable, of which no
-- header slot starts so either.
abbrev pub IsCreated : Sectors → Limits → Sectors → Type 0
IsCreated old limits image = (image ≡ old)
    ⊎ ((IsOurs old → ⊥) × (Means image (empty_table limits)
    ⊎ ((image ≡ slice_set old 1 Unreadable) × Stands image (Err journal.NotOurs))))

-- why `create` refuses a device of so many sectors with these values
abbrev pub IsCreateRefusal : Sectors → ℕ → Limits → StoreFault → Type 0
IsCreateRefusal reads count limits Exists = IsOurs reads
IsCreateRefusal reads count limits TooSmall = (IsOurs reads → ⊥) × (count < need limits)
IsCreateRefusal reads count limits (Device pending) = Unit {0}
IsCreateRefusal reads count limits fault = ⊥
