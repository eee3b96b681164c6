-- How a run of device calls goes on.
use Rattle.std.proofs.Common.{◌≡◌, ◌≤◌, ◌<◌, ◌++◌, ◌∷◌, [], inl, inr, refl, sym, ◌∙◌, ap, subst, ⊎_elim, ℕ, List, length, arith}
use Rattle.std.specs.Prelude.{slice_set, Result, Ok, Err, IsErr}
use Rattle.std.proofs.lemmas.Bool.{cases_lt, false≢true}
use Rattle.std.proofs.lemmas.List.{get_or-set_other, get_or_past}
use Rattle.sector_dev.specs.declared.device.Sector.{Sector}
use Rattle.sector_dev.specs.declared.device.Sector.TheVariants.{Bytes, Unreadable}
use Rattle.sector_dev.specs.Image.{Sectors, sector_at, Write, IsWritten}
use Rattle.sector_dev.specs.Device.{State, IsCoherent, WithOrWithout, IsPending, MayBePending, Elapses, HasRisen, CountsFailure}
use Rattle.sector_dev.specs.Runs.{LeavesOnly, IsRun, WithWrites, ArePending, AgreeElsewhere, IsUntouched}
use Rattle.sector_dev.proofs.Images.{pending_images, stable_images, applied-append}
use Rattle.sector_dev.proofs.Moments.{elapses_same}

-- before the first call
pub started : (old : State) (P : Sectors → Type 0) → ((c : Sectors) → old.image_since old.moment c → P c)
    → LeavesOnly old old P
started old P here = record { unstopped = refl; later = omega arith; each = here; before = λ t c le left. inl left }

-- one call more, during which a crash leaves what has P
pub goes_on : (old mid new : State) (P during : Sectors → Type 0) → LeavesOnly old mid P → Elapses mid new during
    → ((c : Sectors) → during c → P c) → LeavesOnly old new P
goes_on old mid new P during so_far time here = record {
  unstopped = time.unstopped ∙ so_far.unstopped;
  later = omega (arith, so_far.later, time.later);
  each = λ c left. ⊎_elim (so_far.each c) (here c) (time.nothing_else old.moment c so_far.later left);
  before = λ t c le left. ⊎_elim (so_far.before t c le) (λ now. inr (here c now))
      (time.nothing_else t c (omega (arith, le, so_far.later)) left);
}

-- what a crash may leave after a run is among what it might have left during it
pub leaves_now : (sectors : ℕ) (old new : State) (P : Sectors → Type 0) → IsCoherent sectors new → new.keeps_model
    → LeavesOnly old new P → (c : Sectors) → new.image c → P c
leaves_now sectors old new P coherent model leaves c now =
    leaves.each c (coherent.counts_now old.moment c model leaves.later now)

-- what may be left during a call may be said more widely
pub widened : (old new : State) (P Q : Sectors → Type 0) → Elapses old new P → ((c : Sectors) → P c → Q c)
    → Elapses old new Q
widened old new P Q time wider = record {
  unstopped = time.unstopped;
  later = time.later;
  nothing_else = λ t c le left. ⊎_elim (λ past. inl past) (λ now. inr (wider c now)) (time.nothing_else t c le left);
  keeps = time.keeps;
}

-- two runs are one
pub elapses_then : (old mid new : State) (P : Sectors → Type 0) → Elapses old mid P → Elapses mid new P
    → Elapses old new P
elapses_then old mid new P first second = record {
  unstopped = second.unstopped ∙ first.unstopped;
  later = omega (arith, first.later, second.later);
  nothing_else = λ t c le left.
      ⊎_elim (first.nothing_else t c le) (λ now. inr now)
      (second.nothing_else t c (omega (arith, le, first.later)) left);
  keeps = λ t c le left. second.keeps t c (omega (arith, le, first.later)) (first.keeps t c le left);
}

-- a run that leaves only what has P where nothing else might be left at its start
pub leaves_only : (old new : State) (P : Sectors → Type 0) → Elapses old new P
    → ((c : Sectors) → old.image_since old.moment c → P c) → LeavesOnly old new P
leaves_only old new P time here = goes_on old old new P P (started old P here) time (λ c now. now)

module _ {D T E : Type 0} (state : D → State) (sector_count failures : D → ℕ) where
  -- before the first call
  pub run_started : (device : D) (x : T) (P : Sectors → Type 0)
      → IsRun {T = T} {E = E} state sector_count failures device device (Ok x) P
  run_started device x P = record {
    model = (λ model. model, λ model. model);
    size = refl;
    time = λ model. elapses_same (state device) P;
    cause = refl;
  }

  -- one call more, or another run
  pub run_goes_on : {U F : Type 0} (old mid new : D) (x : U) (result : Result T E) (P Q : Sectors → Type 0)
      → IsRun {T = U} {E = F} state sector_count failures old mid (Ok x) P
      → IsRun {T = T} {E = E} state sector_count failures mid new result Q
      → ((state old).keeps_model → (c : Sectors) → Q c → P c)
      → IsRun {T = T} {E = E} state sector_count failures old new result P
  run_goes_on old mid new x result P Q first second wider = record {
    model = (λ model. first.model.0 (second.model.0 model), λ model. second.model.1 (first.model.1 model));
    size = second.size ∙ first.size;
    time = λ model. elapses_then (state old) (state mid) (state new) P (first.time model)
        (widened (state mid) (state new) Q P (second.time (first.model.1 model)) (wider model));
    cause = subst (λ (count : ℕ). CountsFailure result count (failures new)) first.cause second.cause;
  }

among : (writes more : List Write) (k : ℕ) (sector : Sector) → IsWritten writes k sector
    → IsWritten (writes ++ more) k sector
among [] more k sector written = absurd written
among (w ∷ ws) more k sector (inl here) = inl here
among (w ∷ ws) more k sector (inr later) = inr (among ws more k sector later)

-- With further writes pending, a crash may leave what it might have left, and more.
pub with_more : (writes more : List Write) (old : Sectors → Type 0) (c : Sectors) → WithWrites writes old c
    → WithWrites (writes ++ more) old c
with_more writes more old c (d, was, i) = (
  d,
  was,
  record {
    size = i.size;
    each = λ k lt. ⊎_elim (λ same. inl same) (λ written. inr (among writes more k (sector_at c k) written)) (i.each k lt);
  },
)

module _ (old : Sectors → Type 0) (ws : List Write) (w : Write)
    (within : (d : Sectors) → old d → w.sector < length d) where
  -- one write more
  pub one_more : (c : Sectors) → WithOrWithout w.sector w.value (WithWrites ws old) c → WithWrites (ws ++ w ∷ []) old c
  one_more c (e, (d, was, i), changed) = (d, was, (pending_images d ws w (within d was) c).1 (e, i, changed))

  pub one_less_or_more : (c : Sectors) → WithWrites (ws ++ w ∷ []) old c
      → WithOrWithout w.sector w.value (WithWrites ws old) c
  one_less_or_more c (d, was, i) =
      let s = (pending_images d ws w (within d was) c).0 i in (s.0, (d, was, s.1), s.2)

-- nothing was written
pub none_pending : (old : State) → ArePending [] old old
none_pending old = record {
  reads = refl;
  images = λ c. (
    λ now. (c, now, (stable_images c c).1 refl),
    λ with. subst old.image (sym ((stable_images with.0 c).0 with.2)) with.1,
  );
}

module _ (old mid new : State) (ws : List Write) (w : Write) (pending : ArePending ws old mid)
    (within : (d : Sectors) → old.image d → w.sector < length d) where
  same_sectors : (c : Sectors) → WithOrWithout w.sector w.value mid.image c
      → WithOrWithout w.sector w.value (WithWrites ws old.image) c
  same_sectors c (d, now, changed) = (d, (pending.images d).0 now, changed)

  -- what may be left during one write more
  pub during_more : (c : Sectors) → WithOrWithout w.sector w.value mid.image c → WithWrites (ws ++ w ∷ []) old.image c
  during_more c h = one_more old.image ws w within c (same_sectors c h)

  -- one write more is pending
  pub more_pending : IsPending w.sector w.value mid new → ArePending (ws ++ w ∷ []) old new
  more_pending last = record {
    reads = last.reads ∙ (ap (λ (s : Sectors). slice_set s w.sector (Bytes w.value)) pending.reads
        ∙ sym (applied-append old.reads ws w));
    images = λ c. (
      λ now. during_more c ((last.images c).0 now),
      λ with.
          let s = one_less_or_more old.image ws w within c with in
          (last.images c).1 (s.0, (pending.images s.0).1 s.1, s.2),
    );
  }

  -- one write more failed
  pub more_failed : MayBePending w.sector w.value mid new → (c : Sectors) → new.image c
      → WithWrites (ws ++ w ∷ []) old.image c
  more_failed failed c now = elim failed.images [
    | inl same ↦ with_more ws (w ∷ []) old.image c ((pending.images c).0 ((same c).0 now))
    | inr more ↦ during_more c ((more c).0 now)
  ]

-- An image after a write agrees with some image from before it in every other sector.
pub frame : (at : ℕ) (value : List ℕ) (old : Sectors → Type 0) (c : Sectors) → WithOrWithout at value old c
    → (d : Sectors) × old d × AgreeElsewhere at c d
frame at value old c (d, was, inl same) = (d, was, λ k ne. ap (λ (s : Sectors). sector_at s k) same)
frame at value old c (d, was, inr (inl written)) = (
  d,
  was,
  λ k ne.
      ap (λ (s : Sectors). sector_at s k) written ∙ get_or-set_other d at k (Bytes value) Unreadable ne,
)
frame at value old c (d, was, inr (inr unreadable)) = (
  d,
  was,
  λ k ne.
      ap (λ (s : Sectors). sector_at s k) unreadable ∙ get_or-set_other d at k Unreadable Unreadable ne,
)

-- An image after writes agrees with some image from before them in every sector that none of them is to.
pub frame_all : (writes : List Write) (old : Sectors → Type 0) (c : Sectors) → WithWrites writes old c
    → (d : Sectors) × old d × ((k : ℕ) → IsUntouched writes k → sector_at c k ≡ sector_at d k)
frame_all writes old c (d, was, i) = (
  d,
  was,
  λ k untouched. elim (cases_lt k (length d)) [
    | inr past ↦ get_or_past c k Unreadable (omega (arith, past, i.size)) ∙ sym (get_or_past d k Unreadable past)
    | inl lt ↦ elim (i.each k lt) [ inl same ↦ same | inr written ↦ absurd (untouched (sector_at c k) written) ]
  ],
)

-- ---- failures

-- a call that failed has counted it
pub failed_counted : {T E : Type 0} (r : Result T E) (old new : ℕ) → IsErr r → HasRisen old new × (old ≤ new)
    → CountsFailure r old new
failed_counted (Ok x) old new err risen = absurd (false≢true err)
failed_counted (Err e) old new err risen = risen

-- also since calls before it that did not fail
pub failed_later : {T E : Type 0} (r : Result T E) (old mid new : ℕ) → IsErr r → mid ≡ old
    → HasRisen mid new × (mid ≤ new) → CountsFailure r old new
failed_later r old mid new err same risen =
    subst (λ (n : ℕ). CountsFailure r n new) same (failed_counted r mid new err risen)
