-- The device from life to life, and how often it had failed at the end of each.
use Rattle.std.specs.Prelude.{ℕ, ◌≡◌, ◌≤◌, List, [], ◌∷◌, Option, None, IsSome}
use Rattle.sector_dev.specs.Image.{Sectors, Write}
use Rattle.sector_dev.specs.Device.{State, HasRisen, HasStopped}
use Rattle.sector_dev.specs.Crash.{left_by}
use Rattle.sector_journal.specs.Calls.{TakesAnOpening}
use Rattle.chess_store.specs.declared.plan.Life.{Life}
use Rattle.chess_store.specs.declared.plan.LifeReport.{LifeReport}

-- time went on from one state to the other, and no crash came
pub record HasGoneOn (old new : State) : Type 0 where
  pub unstopped : new.stops ≡ old.stops
  pub later : old.moment ≤ new.moment

-- Of a device: its state, how often it has failed, how many calls it has left, its stable values and its pending
-- writes.
module _ {D : Type 0} (state : D → State) (failures : D → ℕ) (calls_left : D → Option ℕ) (stable : D → Sectors)
    (pending : D → List Write) where
  -- What a life's stop makes of its device: it has stopped once more, each pending write has the life's fate, the calls
  -- are not limited any more, and it has failed as often as before.
  pub record IsStopOf (life : Life) (left ended : D) : Type 0 where
    pub stopped : HasStopped (state left) (state ended)
    pub fates : stable ended ≡ left_by (stable left) (pending left) life.fates.items
    pub settled : pending ended ≡ []
    pub unlimited : calls_left ended ≡ None
    pub unfailed : failures ended ≡ failures left

  -- The device failed in the opening of a life, whose calls are limited: nothing was written, so that no image is
  -- possible that was not, and of the life's calls at most those are gone that an opening takes which goes well.
  pub record HasFailedToOpen (life : Life) (old new : D) : Type 0 where
    pub failed : HasRisen (failures old) (failures new)
    pub unwritten : (image : Sectors) → (state new).image image → (state old).image image
    pub armed : IsSome life.calls
    pub taken : TakesAnOpening (state old).reads life.calls (calls_left new)

  -- A life from one device to another: one crash comes, its stop, at which the device has failed as often as is
  -- reported; and its opening is told as failed only where the device has failed between the stop before it and its
  -- own, with nothing written, and within the calls of an opening.
  pub record IsLivedOn (life : Life) (report : LifeReport) (begun ended : D) : Type 0 where
    pub left : D
    pub on : HasGoneOn (state begun) (state left)
    pub counted : report.failures ≡ failures left
    pub unopened : report.opened ≡ None → HasFailedToOpen life begun left
    pub stopped : IsStopOf life left ended

  -- Each life begins with the device that the stop of the one before it left.
  abbrev pub AreLivedOn : List Life → List LifeReport → D → D → Type 0
  AreLivedOn [] [] begun ended = ended ≡ begun
  AreLivedOn (life ∷ lives) (report ∷ reports) begun ended =
      (between : D) × IsLivedOn life report begun between × AreLivedOn lives reports between ended
  AreLivedOn _ _ begun ended = ⊥

  -- And so the lives, with the last opening behind them, in which the device does not fail.
  pub record AreTold (lives : List Life) (reports : List LifeReport) (begun ended : D) : Type 0 where
    pub last : D
    pub lived : AreLivedOn lives reports begun last
    pub on : HasGoneOn (state last) (state ended)
    pub unfailed : failures ended ≡ failures last
