-- What each call does to a positioned file, whichever it is: its state and its number of sectors are functions of it.
use Rattle.std.specs.Prelude.{◌≡◌, ◌<◌, ◌*◌, ◌↔◌, ℕ, List, Result, OnOk, OnErr}
use Rattle.sector_dev.specs.declared.device.Sector.TheVariants.{Bytes}
use Rattle.sector_dev.specs.Image.{sector_at}
use Rattle.sector_dev.specs.Device.{State, WithOrWithout, IsUnchanged, IsPending, MayBePending, IsStable, MayBeStable}
use Rattle.sector_dev.specs.Device.{Elapses}

module _ {F E : Type 0} (state : F → State) (sector_count : F → ℕ) (old new : F) where
  -- a read from this offset on, which gives these bytes
  pub record IsReadAt (into : List ℕ) (offset : ℕ) (result : Result (Unit {0}) E) : Type 0 where
    pub size : sector_count new ≡ sector_count old
    pub model : (state new).keeps_model ↔ (state old).keeps_model
    pub value : (state old).keeps_model → (at : ℕ) → at < sector_count old → offset ≡ 512 * at
        → OnOk result (sector_at (state old).reads at ≡ Bytes into)
    pub unchanged : (state old).keeps_model → IsUnchanged (state old) (state new)
    pub time : (state old).keeps_model → Elapses (state old) (state new) (state old).image

  -- a write of these bytes from this offset on
  pub record IsWriteAt (from : List ℕ) (offset : ℕ) (result : Result (Unit {0}) E) : Type 0 where
    pub size : sector_count new ≡ sector_count old
    pub model : (state new).keeps_model ↔ (state old).keeps_model
    pub ok : (state old).keeps_model → (at : ℕ) → at < sector_count old → offset ≡ 512 * at
        → OnOk result (IsPending at from (state old) (state new))
    pub err : (state old).keeps_model → (at : ℕ) → at < sector_count old → offset ≡ 512 * at
        → OnErr result (MayBePending at from (state old) (state new))
    pub time : (state old).keeps_model → (at : ℕ) → at < sector_count old → offset ≡ 512 * at
        → Elapses (state old) (state new) (WithOrWithout at from (state old).image)

  -- a sync
  pub record IsSync (result : Result (Unit {0}) E) : Type 0 where
    pub size : sector_count new ≡ sector_count old
    pub model : (state new).keeps_model ↔ (state old).keeps_model
    pub ok : (state old).keeps_model → OnOk result (IsStable (state old).reads (state new))
    pub err : (state old).keeps_model → OnErr result (MayBeStable (state old) (state new))
    pub time : (state old).keeps_model → Elapses (state old) (state new) (state old).image
