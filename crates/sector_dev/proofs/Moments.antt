-- One more call joins a record.
use Rattle.std.proofs.Common.{◌≡◌, ◌⊎◌, ◌≤◌, ◌<◌, ◌↔◌, ◌+◌, ℕ, List, [], ◌∷◌, ◌++◌, length, inl, inr, refl, sym, ◌∙◌, ap, subst, arith, length-append}
use Rattle.std.specs.Prelude.{slice_set, get_or, zero, suc, false, Result, Ok, Err, OnOk, OnErr}
use Rattle.std.specs.Result.{is_err}
use Rattle.std.proofs.lemmas.Bool.{cases_eq, false≢true}
use Rattle.std.proofs.lemmas.List.{take_all, take-append-le}
use Rattle.sector_dev.specs.declared.memory.Call.{Call}
use Rattle.sector_dev.specs.declared.memory.Call.TheVariants.{Written, Synced}
use Rattle.sector_dev.specs.declared.device.Sector.TheVariants.{Bytes}
use Rattle.sector_dev.specs.Image.{Sectors}
use Rattle.sector_dev.specs.Device.{State, Elapses, WithOrWithout, IsPending, IsStable}
use Rattle.sector_dev.specs.Memory.{Disk, shown, step, disk_after, at_rest}
use Rattle.sector_dev.specs.Replay.{MayLeave, MightLeaveSince, length-disk_after, length-applied, shown_is_image, recorded_state}
use Rattle.sector_dev.proofs.Images.{pending_images, applied-append, stable_images}

pub disk_after-append : (d : Disk) (cs : List Call) (x : Call) → disk_after d (cs ++ x ∷ []) ≡ step (disk_after d cs) x
disk_after-append d [] x = refl
disk_after-append d (c ∷ cs) x = disk_after-append (step d c) cs x

-- a recorded call is the last step
pub recorded : (stable : Sectors) (calls next : List Call) (x : Call) → next ≡ calls ++ x ∷ []
    → disk_after (at_rest stable) next ≡ step (disk_after (at_rest stable) calls) x
recorded stable calls next x is = ap (λ (cs : List Call). disk_after (at_rest stable) cs) is
    ∙ disk_after-append (at_rest stable) calls x

-- a call that changes nothing
pub elapses_same : (now : State) (during : Sectors → Type 0) → Elapses now now during
elapses_same now during = record { unstopped = refl; later = omega arith; nothing_else = λ t c le s. inl s; keeps = λ t c le s. s }

module _ (stable : Sectors) (calls : List Call) (x : Call) where
  abbrev disk : Disk
  disk = disk_after (at_rest stable) calls

  abbrev AtCalls : Sectors → List Call → Type 0
  AtCalls c cs = MayLeave (disk_after (at_rest stable) cs) c

  keeps : (t : ℕ) (c : Sectors) → MightLeaveSince stable calls t c → MightLeaveSince stable (calls ++ x ∷ []) t c
  keeps t c s = record {
    moment = s.moment;
    from = s.from;
    to = omega (arith, s.to, length-append calls (x ∷ []));
    image = subst (AtCalls c) (sym (take-append-le s.moment calls (x ∷ []) s.to)) s.image;
  }

  nothing_else : (during : Sectors → Type 0) → ((c : Sectors) → MayLeave (step disk x) c → during c)
      → (t : ℕ) (c : Sectors) → MightLeaveSince stable (calls ++ x ∷ []) t c → MightLeaveSince stable calls t c
      ⊎ during c
  nothing_else during f t c s = elim (cases_eq s.moment (length calls + 1)) [
    | inl last ↦
        let whole = take_all s.moment (calls ++ x ∷ []) (omega (arith, last, length-append calls (x ∷ []))) in
        inr (f c (subst (λ (d : Disk). MayLeave d c) (disk_after-append (at_rest stable) calls x)
        (subst (AtCalls c) whole s.image)))
    | inr earlier ↦
        let le : s.moment ≤ length calls = omega (arith, earlier, s.to, length-append calls (x ∷ [])) in
        inl (record {
          moment = s.moment;
          from = s.from;
          to = le;
          image =
              subst (AtCalls c) (take-append-le s.moment calls (x ∷ []) le) s.image;
        })
  ]

  elapses_one : {stops : ℕ} (during : Sectors → Type 0) → ((c : Sectors) → MayLeave (step disk x) c → during c)
      → Elapses (recorded_state stops stable calls) (recorded_state stops stable (calls ++ x ∷ [])) during
  elapses_one during f = record {
    unstopped = refl;
    later = omega (arith, length-append calls (x ∷ []));
    nothing_else = λ t c le s. nothing_else during f t c s;
    keeps = λ t c le s. keeps t c s;
  }

-- what a write does to the record's disk
pub write_images : (stable : Sectors) (calls : List Call) (at : ℕ) (value : List ℕ) → at < length stable
    → (c : Sectors)
    → MayLeave (step (disk_after (at_rest stable) calls) (Written at value)) c ↔ WithOrWithout at value
    (MayLeave (disk_after (at_rest stable) calls)) c
write_images stable calls at value lt c =
    let d = disk_after (at_rest stable) calls in
    pending_images d.stable d.pending (record { sector = at; value = value })
    (omega (arith, lt, length-disk_after (at_rest stable) calls)) c

pub written_is_pending : {stops : ℕ} (stable : Sectors) (calls next : List Call) (at : ℕ) (value : List ℕ)
    → at < length stable → next ≡ calls ++ Written at value ∷ []
    → IsPending at value (recorded_state stops stable calls) (recorded_state stops stable next)
written_is_pending stable calls next at value lt is =
    let d = disk_after (at_rest stable) calls in
    let leaves = recorded stable calls next (Written at value) is in
    record {
      reads = ap shown leaves ∙ applied-append d.stable d.pending (record { sector = at; value = value });
      images = λ c. subst (λ (e : Disk). MayLeave e c ↔ WithOrWithout at value (MayLeave d) c) (sym leaves)
          (write_images stable calls at value lt c);
    }

pub written_elapses : {stops : ℕ} (stable : Sectors) (calls next : List Call) (at : ℕ) (value : List ℕ)
    → at < length stable → next ≡ calls ++ Written at value ∷ []
    → Elapses (recorded_state stops stable calls) (recorded_state stops stable next)
    (WithOrWithout at value (MayLeave (disk_after (at_rest stable) calls)))
written_elapses {stops = stops} stable calls next at value lt is =
    let during = WithOrWithout at value (MayLeave (disk_after (at_rest stable) calls)) in
    subst (λ (cs : List Call). Elapses (recorded_state stops stable calls) (recorded_state stops stable cs) during) (sym is)
    (elapses_one stable calls (Written at value) during (λ c i. (write_images stable calls at value lt c).0 i))

pub synced_is_stable : {stops : ℕ} (stable : Sectors) (calls next : List Call) → next ≡ calls ++ Synced ∷ []
    → IsStable (shown (disk_after (at_rest stable) calls)) (recorded_state stops stable next)
synced_is_stable stable calls next is =
    let now = shown (disk_after (at_rest stable) calls) in
    let leaves = recorded stable calls next Synced is in
    record {
      reads = ap shown leaves;
      images = λ c. subst (λ (e : Disk). MayLeave e c ↔ (c ≡ now)) (sym leaves) (stable_images now c);
    }

pub synced_elapses : {stops : ℕ} (stable : Sectors) (calls next : List Call) → next ≡ calls ++ Synced ∷ []
    → Elapses (recorded_state stops stable calls) (recorded_state stops stable next) (MayLeave (disk_after (at_rest stable) calls))
synced_elapses {stops = stops} stable calls next is =
    let d = disk_after (at_rest stable) calls in
    subst (λ (cs : List Call). Elapses (recorded_state stops stable calls) (recorded_state stops stable cs) (MayLeave d)) (sym is)
    (elapses_one stable calls Synced (MayLeave d)
    (λ c i. subst (λ (x : Sectors). MayLeave d x) (sym ((stable_images (shown d) c).0 i)) (shown_is_image d)))

-- what reads give after one more write
pub shown-written : (stable : Sectors) (calls : List Call) (at : ℕ) (value : List ℕ)
    → shown (disk_after (at_rest stable) (calls ++ Written at value ∷ [])) ≡ slice_set
    (shown (disk_after (at_rest stable) calls)) at (Bytes value)
shown-written stable calls at value =
    let d = disk_after (at_rest stable) calls in
    ap shown (disk_after-append (at_rest stable) calls (Written at value))
    ∙ applied-append d.stable d.pending (record { sector = at; value = value })

pub shown-synced : (stable : Sectors) (calls : List Call)
    → shown (disk_after (at_rest stable) (calls ++ Synced ∷ [])) ≡ shown (disk_after (at_rest stable) calls)
shown-synced stable calls = ap shown (disk_after-append (at_rest stable) calls Synced)

pub length-shown : (stable : Sectors) (calls : List Call)
    → length (shown (disk_after (at_rest stable) calls)) ≡ length stable
length-shown stable calls =
    let d = disk_after (at_rest stable) calls in
    length-applied d.stable d.pending ∙ length-disk_after (at_rest stable) calls

-- after a call that is recorded or fails, what is seen is what reads give
pub synced_shown : {T E : Type 0} (r : Result T E) (stable : Sectors) (calls next : List Call)
    (seen : Sectors)
    → OnOk r (next ≡ calls ++ Synced ∷ []) → OnErr r (next ≡ calls) → seen ≡ shown (disk_after (at_rest stable) calls)
    → seen ≡ shown (disk_after (at_rest stable) next)
synced_shown (Ok x) stable calls next seen ok err is = is
    ∙ sym (ap (λ (cs : List Call). shown (disk_after (at_rest stable) cs)) ok ∙ shown-synced stable calls)
synced_shown (Err e) stable calls next seen ok err is = is
    ∙ ap (λ (cs : List Call). shown (disk_after (at_rest stable) cs)) (sym err)

pub written_shown : {T E : Type 0} (r : Result T E) (stable : Sectors) (calls next : List Call)
    (seen later : Sectors) (at : ℕ) (value : List ℕ)
    → OnOk r (next ≡ calls ++ Written at value ∷ []) → OnErr r (next ≡ calls)
    → OnOk r (later ≡ slice_set seen at (Bytes value)) → OnErr r (later ≡ seen)
    → seen ≡ shown (disk_after (at_rest stable) calls) → later ≡ shown (disk_after (at_rest stable) next)
written_shown (Ok x) stable calls next seen later at value ok err set same is =
    set ∙ (ap (λ (s : Sectors). slice_set s at (Bytes value)) is
    ∙ sym (ap (λ (cs : List Call). shown (disk_after (at_rest stable) cs)) ok ∙ shown-written stable calls at value))
written_shown (Err e) stable calls next seen later at value ok err set same is = same
    ∙ (is ∙ ap (λ (cs : List Call). shown (disk_after (at_rest stable) cs)) (sym err))

-- the place of a read doesn't fall past the end
pub any_default : {X : Type 0} (xs : List X) (k : ℕ) (d e : X) → k < length xs → get_or xs k d ≡ get_or xs k e
any_default [] k d e lt = absurd (omega arith)
any_default (x ∷ xs) zero d e lt = refl
any_default (x ∷ xs) (suc k) d e lt = any_default xs k d e (omega arith)

-- what holds anyway holds at `Ok` or at `Err`
pub at_ok : {T E : Type 0} (r : Result T E) (P : Type 0) → P → OnOk r P
at_ok (Ok x) P p = p
at_ok (Err e) P p = tt

pub at_err : {T E : Type 0} (r : Result T E) (P : Type 0) → P → OnErr r P
at_err (Ok x) P p = tt
at_err (Err e) P p = p

pub at_no_err : {T E : Type 0} (r : Result T E) (P : Type 0) → is_err r ≡ false → OnErr r P
at_no_err (Ok x) P is = tt
at_no_err (Err e) P is = absurd (false≢true (sym is))
