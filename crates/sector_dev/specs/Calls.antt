-- What each call does to a device, whichever it is: its state, its number of sectors, its failures and the calls that
-- are left are functions of it.
use Rattle.std.specs.Prelude.{◌≡◌, ◌↔◌, ℕ, List, Option, Result, IfOk, OnOk, OnErr}
use Rattle.sector_dev.specs.declared.device.DeviceFault.{DeviceFault}
use Rattle.sector_dev.specs.declared.device.Got.{Got}
use Rattle.sector_dev.specs.Image.{sector_at}
use Rattle.sector_dev.specs.Device.{State, IsRead, WithOrWithout, IsUnchanged, IsPending, MayBePending, IsStable}
use Rattle.sector_dev.specs.Device.{MayBeStable, Elapses, CountsFailure, TakesOne}

module _ {D : Type 0} (state : D → State) (sector_count failures : D → ℕ) (left : D → Option ℕ) (old new : D) where
  -- a read of this sector, which gives these bytes
  pub record IsReadCall (at : ℕ) (into : List ℕ) (result : Result Got DeviceFault) : Type 0 where
    pub sectors : sector_count new ≡ sector_count old
    pub model : (state new).keeps_model ↔ (state old).keeps_model
    pub value : (state old).keeps_model → IfOk result (λ got. IsRead (sector_at (state old).reads at) got into)
    pub unchanged : (state old).keeps_model → IsUnchanged (state old) (state new)
    pub time : (state old).keeps_model → Elapses (state old) (state new) (state old).image
    pub cause : CountsFailure result (failures old) (failures new)
    pub calls_left : TakesOne result (left old) (left new)

  -- a write of these bytes to this sector
  pub record IsWriteCall (at : ℕ) (from : List ℕ) (result : Result (Unit {0}) DeviceFault) : Type 0 where
    pub sectors : sector_count new ≡ sector_count old
    pub model : (state new).keeps_model ↔ (state old).keeps_model
    pub ok : (state old).keeps_model → OnOk result (IsPending at from (state old) (state new))
    pub err : (state old).keeps_model → OnErr result (MayBePending at from (state old) (state new))
    pub time : (state old).keeps_model → Elapses (state old) (state new) (WithOrWithout at from (state old).image)
    pub cause : CountsFailure result (failures old) (failures new)
    pub calls_left : TakesOne result (left old) (left new)

  -- a sync or a barrier
  pub record IsSyncCall (result : Result (Unit {0}) DeviceFault) : Type 0 where
    pub sectors : sector_count new ≡ sector_count old
    pub model : (state new).keeps_model ↔ (state old).keeps_model
    pub ok : (state old).keeps_model → OnOk result (IsStable (state old).reads (state new))
    pub err : (state old).keeps_model → OnErr result (MayBeStable (state old) (state new))
    pub time : (state old).keeps_model → Elapses (state old) (state new) (state old).image
    pub cause : CountsFailure result (failures old) (failures new)
    pub calls_left : TakesOne result (left old) (left new)
