-- What a pending write makes of sectors that have changed or not.
use Rattle.std.proofs.Common.{◌≡◌, ◌∙◌, inl, inr, ℕ, List, refl, subst, sym}
use Rattle.sector_dev.specs.Image.{Sectors}
use Rattle.sector_dev.specs.Device.{State, IsCoherent, OldOrChanged, WithOrWithout, Elapses}
use Rattle.sector_dev.specs.Device.{IsUnchanged, IsPending, MayBePending, IsStable}
use Rattle.sector_dev.specs.Runs.{IsAtRest, LeavesOnly}
use Rattle.sector_dev.proofs.Runs.{started, goes_on}
use Rattle.test_disk.specs.Changes.{OldOrEither}

pub one_changed : (old : Sectors) (images : Sectors → Type 0) (at : ℕ) (value : List ℕ)
    → ((d : Sectors) → images d → d ≡ old)
    → (c : Sectors) → WithOrWithout at value images c → OldOrChanged old at value c
one_changed old images at value only c h =
    subst (λ (d : Sectors). OldOrChanged d at value c) (only h.0 h.1) h.2

pub two_changed : (old : Sectors) (images : Sectors → Type 0) (at : ℕ) (value : List ℕ) (also_at : ℕ)
    (also : List ℕ)
    → ((d : Sectors) → images d → OldOrChanged old at value d)
    → (c : Sectors) → WithOrWithout also_at also images c → OldOrEither old at value also_at also c
two_changed old images at value also_at also one c h = (h.0, one h.0 h.1, h.2)

-- the first of the two is as it may be after it alone
pub first_alone : (old : Sectors) (at : ℕ) (value : List ℕ) (also_at : ℕ) (also : List ℕ) (c : Sectors)
    → OldOrChanged old at value c → OldOrEither old at value also_at also c
first_alone old at value also_at also c one = (c, one, inl refl)

-- a device at rest that did not change is at rest, and one whose sectors are stable
pub unchanged_at_rest : (old new : State) → new.keeps_model → IsUnchanged old new → IsAtRest old → IsAtRest new
unchanged_at_rest old new model same at_rest =
    (model, λ c now. at_rest.1 c ((same.images c).0 now) ∙ sym same.reads)

pub stable_at_rest : (sectors : Sectors) (new : State) → new.keeps_model → IsStable sectors new → IsAtRest new
stable_at_rest sectors new model stable = (model, λ c now. (stable.images c).0 now ∙ sym stable.reads)

-- From a device at rest: the first write, and a second one.
module _ (old : State) (sector_count : ℕ) (laws : IsCoherent sector_count old) (at_rest : IsAtRest old)
    (at : ℕ) (value : List ℕ) where
  pub during_first : (mid : State) (P : Sectors → Type 0)
      → ((c : Sectors) → OldOrChanged old.reads at value c → P c)
      → Elapses old mid (WithOrWithout at value old.image) → LeavesOnly old mid P
  during_first mid P here time =
      let at_start = started old P (λ c left. here c (inl (at_rest.1 c (laws.only_now c at_rest.0 left)))) in
      goes_on old old mid P (WithOrWithout at value old.image) at_start time
      (λ c now. here c (one_changed old.reads old.image at value at_rest.1 c now))

  after_first : (mid : State) → IsPending at value old mid → (c : Sectors) → mid.image c
      → OldOrChanged old.reads at value c
  after_first mid pending c now =
      one_changed old.reads old.image at value at_rest.1 c ((pending.images c).0 now)

  pub after_failed_first : (mid : State) → MayBePending at value old mid → (c : Sectors) → mid.image c
      → OldOrChanged old.reads at value c
  after_failed_first mid failed c now = elim failed.images [
    | inl same ↦ inl (at_rest.1 c ((same c).0 now))
    | inr more ↦ one_changed old.reads old.image at value at_rest.1 c ((more c).0 now)
  ]

  -- the write and a sync
  pub during_first_sync : (mid new : State) → Elapses old mid (WithOrWithout at value old.image)
      → IsPending at value old mid → Elapses mid new mid.image → LeavesOnly old new (OldOrChanged old.reads at value)
  during_first_sync mid new time pending sync_time =
      let P = OldOrChanged old.reads at value in
      goes_on old mid new P mid.image (during_first mid P (λ c one. one) time) sync_time (after_first mid pending)

  module _ (also_at : ℕ) (also : List ℕ) where
    pub during_second : (mid late : State) → Elapses old mid (WithOrWithout at value old.image)
        → IsPending at value old mid → Elapses mid late (WithOrWithout also_at also mid.image)
        → LeavesOnly old late (OldOrEither old.reads at value also_at also)
    during_second mid late time pending time_2 =
        let P = OldOrEither old.reads at value also_at also in
        goes_on old mid late P (WithOrWithout also_at also mid.image)
        (during_first mid P (λ c one. first_alone old.reads at value also_at also c one) time) time_2
        (two_changed old.reads mid.image at value also_at also (after_first mid pending))

    pub after_failed_second : (mid late : State) → IsPending at value old mid → MayBePending also_at also mid late
        → (c : Sectors) → late.image c → OldOrEither old.reads at value also_at also c
    after_failed_second mid late pending failed c now = elim failed.images [
      | inl same ↦ first_alone old.reads at value also_at also c (after_first mid pending c ((same c).0 now))
      | inr more ↦ two_changed old.reads mid.image at value also_at also (after_first mid pending) c ((more c).0 now)
    ]

    pub after_second : (mid late : State) → IsPending at value old mid → IsPending also_at also mid late
        → (c : Sectors) → late.image c → OldOrEither old.reads at value also_at also c
    after_second mid late pending pending_2 c now =
        two_changed old.reads mid.image at value also_at also (after_first mid pending) c ((pending_2.images c).0 now)

    -- both writes and a sync
    pub during_second_sync : (mid late new : State) → Elapses old mid (WithOrWithout at value old.image)
        → IsPending at value old mid → Elapses mid late (WithOrWithout also_at also mid.image)
        → IsPending also_at also mid late → Elapses late new late.image
        → LeavesOnly old new (OldOrEither old.reads at value also_at also)
    during_second_sync mid late new time pending time_2 pending_2 sync_time =
        goes_on old late new (OldOrEither old.reads at value also_at also) late.image
        (during_second mid late time pending time_2) sync_time (after_second mid late pending pending_2)
